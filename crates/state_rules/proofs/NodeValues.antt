-- Values of nodes: each follows from the node's kind and the values of its children.
use Rattle.std.proofs.Common.{◌≡◌, ℕ, suc, ◌<◌, Bool, true, List, [], ◌∷◌, ◌++◌, map, length, get_or, Some, All, refl, arith, length-append}
use Rattle.std.specs.Prelude.{nat_lt, slice_get}
use Rattle.std.specs.List.{list_all}
use Rattle.std.proofs.lemmas.Bool.{and_from, ltb-true, lt-ltb}
use Rattle.std.proofs.lemmas.List.{get_or_at}
use Rattle.std.proofs.lemmas.Option.{get_or_from_slice_get, slice_get_within}
use Rattle.std.proofs.Math.Seq.{take-append_seam}
use Rattle.state_rules.specs.Bits.{bit_in}
use Rattle.state_rules.specs.Values.{values}
use Rattle.state_rules.proofs.Values.{values-at, values-before}
use Rattle.state_rules.specs.declared.nodes.NodeKind.{NodeKind}
use Rattle.state_rules.specs.Graphs.{Node, true_node, node_at}
use Rattle.state_rules.proofs.Lists.{list_all-at}

abbrev pub are_below : ℕ → List ℕ → Bool
are_below own kids = list_all (λ child. nat_lt child own) kids

pub are_below-from : (own : ℕ) (kids : List ℕ) → All (λ k. k < own) kids → are_below own kids ≡ true
are_below-from own [] all = refl
are_below-from own (child ∷ kids) all = and_from _ _ (lt-ltb child own (all 0 0 (omega arith))) (are_below-from own kids (λ k d h. all (suc k) d (omega arith)))

pub below-each : (own : ℕ) (kids : List ℕ) → are_below own kids ≡ true → All (λ k. k < own) kids
below-each own kids below k d h = ltb-true (get_or kids k d) own (list_all-at (λ child. nat_lt child own) kids k d below h)

-- functions that agree below a number agree on children below it
pub map-below : {A : Type 0} (f g : ℕ → A) (own : ℕ) (kids : List ℕ) → are_below own kids ≡ true → ((k : ℕ) → k < own → f k ≡ g k) → map f kids ≡ map g kids
map-below f g own [] below same = refl
map-below f g own (child ∷ kids) below same = grind (arith, map-below f g own kids)

pub node_at-last : (nodes : List Node) (node : Node) → node_at (nodes ++ node ∷ []) (length nodes) ≡ node
node_at-last nodes node = get_or_at nodes node [] true_node (length nodes) refl

module _ (by_kind : NodeKind → List Bool → Bool) where
  abbrev pub value : Node → List Bool → Bool
  value node earlier = by_kind node.what (map (bit_in earlier) node.kids)

  -- the value of the node with this number
  abbrev pub value_of : List Node → ℕ → Bool
  value_of nodes k = bit_in (values value nodes) k

  pub value_of-at : (nodes : List Node) (i : ℕ) → i < length nodes → are_below i (node_at nodes i).kids ≡ true
      → value_of nodes i ≡ by_kind (node_at nodes i).what (map (value_of nodes) (node_at nodes i).kids)
  value_of-at nodes i inside below = grind (arith, values-at, map-below, values-before)

  pub value_of-get : (nodes : List Node) (i : ℕ) (node : Node) → slice_get nodes i ≡ Some node → are_below i node.kids ≡ true
      → value_of nodes i ≡ by_kind node.what (map (value_of nodes) node.kids)
  value_of-get nodes i node there below = grind (arith, get_or_from_slice_get, value_of-at, slice_get_within)

  -- the value of the last node follows from the values before it
  pub value_of-last : (nodes : List Node) (node : Node) → value_of (nodes ++ node ∷ []) (length nodes) ≡ value node (values value nodes)
  value_of-last nodes node = grind (arith, length-append nodes (node ∷ []), values-at value (nodes ++ node ∷ []) (length nodes) true_node, node_at-last nodes node, take-append_seam nodes (node ∷ []))

  -- one more node keeps the values before it
  pub value_of-before : (nodes : List Node) (node : Node) (k : ℕ) → k < length nodes → value_of (nodes ++ node ∷ []) k ≡ value_of nodes k
  value_of-before nodes node k h = grind (arith, length-append nodes (node ∷ []), values-before value (nodes ++ node ∷ []) (length nodes) true_node, take-append_seam nodes (node ∷ []))
