-- Texts of graphs of given health states, and of smooth graphs of them.
use Rattle.std.specs.Prelude.{◌≡◌, ℕ, ◌-◌, ◌<◌, ◌≤◌, Bool, true, List, [], ◌∷◌, map, length, Ok, Err}
use Rattle.std.specs.List.{list_any, list_all, AllByRecursion}
use Rattle.std.specs.Cmp.Lexicographic.{pointwise}
use Rattle.state_rules.specs.Bits.{same_bit}
use Rattle.state_rules.specs.declared.nodes.NodeKind.{NodeKind}
use Rattle.state_rules.specs.declared.nodes.NodeKind.TheVariants.{Literal, And, Or}
use Rattle.state_rules.specs.Graphs.{Node, Decomposable, holds, mentions}
use Rattle.nnf_text.specs.GraphTexts.{Parsed}

-- a decomposable graph over `parts` parts that is true for exactly these states
abbrev pub IsGraphOfStates : ℕ → List (List Bool) → Parsed → Type 0
IsGraphOfStates parts states (Err refusal) = ⊥
IsGraphOfStates parts states (Ok graph) =
    (graph.vars ≡ parts) × Decomposable graph.nodes
    × ((h : List Bool) → length h ≡ parts → holds graph h ≡ list_any (pointwise same_bit h) states)

-- whether all bits are equal
abbrev pub all_same : List Bool → Bool
all_same [] = true
all_same (b ∷ bs) = list_all (same_bit b) bs

-- whether an Or node has a variable below all its children or none
abbrev pub smooth_at : (ℕ → Bool) → NodeKind → List ℕ → Bool
smooth_at mentioned (Literal positive var) kids = true
smooth_at mentioned And kids = true
smooth_at mentioned Or kids = all_same (map mentioned kids)

abbrev pub Smooth : List Node → Type 0
Smooth nodes = (v : ℕ) → AllByRecursion (λ node. smooth_at (mentions nodes v) node.what node.kids ≡ true) nodes

-- a smooth graph of these states whose root mentions each part, if there is a state
abbrev pub IsSmoothGraphOfStates : ℕ → List (List Bool) → Parsed → Type 0
IsSmoothGraphOfStates parts states (Err refusal) = ⊥
IsSmoothGraphOfStates parts states (Ok graph) =
    IsGraphOfStates parts states (Ok graph) × Smooth graph.nodes
    × (0 < length states → (part : ℕ) → 1 ≤ part → part ≤ parts → mentions graph.nodes part (length graph.nodes - 1) ≡ true)
