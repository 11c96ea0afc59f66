-- The text of a graph.
use Rattle.std.specs.Prelude.{ℕ, Bool, true, false, List, [], ◌∷◌, map, length, codes, decimal}
use Rattle.std.specs.List.{flat_map}
use Rattle.text_rules.specs.Tokens.{spaced}
use Rattle.state_rules.specs.declared.nodes.NodeKind.{NodeKind}
use Rattle.state_rules.specs.declared.nodes.NodeKind.TheVariants.{Literal, And, Or}
use Rattle.state_rules.specs.Graphs.{Node, Graph, edges}

-- a variable, after a minus sign if it is negated
abbrev pub literal_word : Bool → ℕ → List ℕ
literal_word true var = decimal var
literal_word false var = 45 ∷ decimal var

-- the number of children, then each child
abbrev pub child_words : List ℕ → List (List ℕ)
child_words kids = decimal (length kids) ∷ map decimal kids

-- the number after O is always 0
abbrev pub kind_words : NodeKind → List ℕ → List (List ℕ)
kind_words (Literal positive var) kids = codes "L" ∷ literal_word positive var ∷ []
kind_words And kids = codes "A" ∷ child_words kids
kind_words Or kids = codes "O" ∷ codes "0" ∷ child_words kids

abbrev pub node_words : Node → List (List ℕ)
node_words node = kind_words node.what node.kids

-- the numbers of nodes, edges and variables
abbrev pub header_words : Graph → List (List ℕ)
header_words graph = codes "nnf" ∷ decimal (length graph.nodes) ∷ decimal (edges graph.nodes) ∷ decimal graph.vars ∷ []

-- a line for the header, and one for each node
abbrev pub graph_text : Graph → List ℕ
graph_text graph = flat_map spaced (header_words graph ∷ map node_words graph.nodes)
