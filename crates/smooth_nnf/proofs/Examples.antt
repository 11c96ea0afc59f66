-- Worked rows: texts of the diagnoses.
use Rattle.std.proofs.Common.{◌≡◌, ℕ, true, false, List, [], ◌∷◌, ◌++◌, refl, map}
use Rattle.std.specs.Prelude.{codes}
use Rattle.std.specs.Fmt.{digits}
use Rattle.std.specs.List.{filter}
use Rattle.state_rules.specs.Bits.{lists_of_bits}
use Rattle.state_rules.specs.declared.nodes.NodeKind.TheVariants.{Or}
use Rattle.state_rules.specs.Graphs.{Graph, literal_node, true_node, holds}
use Rattle.conditioner.specs.Models.{diagnoses_under}
use Rattle.smooth_nnf.specs.Layouts.{least_graph, least_text}

abbrev text : List (List ℕ) → List ℕ
text [] = []
text (l ∷ ls) = l ++ (10 ∷ text ls)

-- either part is faulty
abbrev either : Graph
either = record { nodes = literal_node 1 false ∷ literal_node 2 false ∷ record { what = Or; kids = 0 ∷ 1 ∷ [] } ∷ []; vars = 2 }

either_text : least_text either (0 ∷ 0 ∷ []) (1 ∷ 1 ∷ [])
    ≡ text (map codes ("nnf 10 9 2" ∷ "L 1" ∷ "L -1" ∷ "L 2" ∷ "L -2" ∷ "A 1 1" ∷ "A 1 3" ∷ "A 2 4 2" ∷ "A 2 5 0" ∷ "O 0 2 6 7" ∷ "A 1 8" ∷ []))
unfolding digits
either_text = refl

-- no state is left
none_text : least_text either (1 ∷ 1 ∷ []) (1 ∷ 1 ∷ [])
    ≡ text (map codes ("nnf 8 0 2" ∷ "L 1" ∷ "L -1" ∷ "L 2" ∷ "L -2" ∷ "O 0 0" ∷ "O 0 0" ∷ "O 0 0" ∷ "O 0 0" ∷ []))
unfolding digits
none_text = refl

-- a dearer part stays ok, and one that no node mentions is as held
true_where_cheapest : filter (holds (least_graph either (0 ∷ 0 ∷ []) (1 ∷ 2 ∷ []))) (lists_of_bits 2) ≡ (false ∷ true ∷ []) ∷ []
true_where_cheapest = refl

abbrev always : Graph
always = record { nodes = true_node ∷ []; vars = 2 }

held_text : least_text always (0 ∷ 2 ∷ []) (1 ∷ 1 ∷ []) ≡ text (map codes ("nnf 6 3 2" ∷ "L 1" ∷ "L -1" ∷ "L 2" ∷ "L -2" ∷ "A 0" ∷ "A 3 4 0 3" ∷ []))
unfolding digits
held_text = refl

-- the graph is true for the diagnoses
held_states : filter (holds (least_graph either (0 ∷ 2 ∷ []) (1 ∷ 2 ∷ []))) (lists_of_bits 2) ≡ diagnoses_under either (0 ∷ 2 ∷ []) (1 ∷ 2 ∷ [])
held_states = refl

-- with equal costs one fault is enough, never both
either_states : filter (holds (least_graph either (0 ∷ 0 ∷ []) (1 ∷ 1 ∷ []))) (lists_of_bits 2) ≡ (false ∷ true ∷ []) ∷ (true ∷ false ∷ []) ∷ []
either_states = refl
