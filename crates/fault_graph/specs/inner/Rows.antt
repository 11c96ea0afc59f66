-- The node of the smaller graph that replaces a node.
use Rattle.std.specs.Prelude.{◌≡◌, ◌≢◌, ℕ, ◌-◌, Bool, ◌&&◌, ◌⊎◌, List, [], ◌∷◌, ◌++◌, map, length, slice_index, nat_le, nat_lt}
use Rattle.std.specs.List.{filter}
use Rattle.state_rules.specs.Graphs.{Node, Graph, node_at}

-- whether a child stays: one that costs nothing is true; one that costs more is not on a derivation of least cost
abbrev pub keeps : List ℕ → ℕ → ℕ → Bool
keeps values cost child = nat_lt 0 (slice_index values child) && nat_le (slice_index values child) cost

-- the places of the children that stay
abbrev pub kept_children : List ℕ → List ℕ → ℕ → List ℕ → List ℕ
kept_children values places cost kids = map (slice_index places) (filter (keeps values cost) kids)

abbrev pub kept_node : List ℕ → List ℕ → ℕ → Node → Node
kept_node values places cost node = record { what = node.what; kids = kept_children values places cost node.kids }

-- a node that is left with one child is replaced by it; any other is added after the others
abbrev pub Adds : List Node → Node → List Node → ℕ → Type 0
Adds old node new place = ((new ≡ old) × (node.kids ≡ place ∷ [])) ⊎ ((new ≡ old ++ node ∷ []) × (place ≡ length old) × (length node.kids ≢ 1))

-- the root stays a node of its own
abbrev pub root_node : Graph → List ℕ → List ℕ → Node
root_node graph values places =
    let root = length graph.nodes - 1 in kept_node values places (slice_index values root) (node_at graph.nodes root)
