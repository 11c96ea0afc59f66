-- Nodes whose kinds are in one list, and their children in another.
use Rattle.std.specs.Prelude.{ℕ, List, [], ◌∷◌}
use Rattle.state_rules.specs.declared.nodes.NodeKind.{NodeKind}
use Rattle.state_rules.specs.Graphs.{Node}

-- the nodes of these kinds, each with the children at its place
abbrev pub nodes_of : List NodeKind → List (List ℕ) → List Node
nodes_of [] lists = []
nodes_of (kind ∷ kinds) [] = []
nodes_of (kind ∷ kinds) (kids ∷ lists) = record { what = kind; kids = kids } ∷ nodes_of kinds lists
