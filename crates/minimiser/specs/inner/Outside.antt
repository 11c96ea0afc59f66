-- The cost of the rest of a derivation of the root, outside each node.
use Rattle.std.specs.Prelude.{◌≡◌, ℕ, ◌+◌, ◌-◌, ◌<◌, ◌≤◌, ◌⊎◌, min, Bool, true, List, length, slice_index, if◌then◌else◌}
use Rattle.state_rules.specs.declared.nodes.NodeKind.{NodeKind}
use Rattle.state_rules.specs.declared.nodes.NodeKind.TheVariants.{Literal, And, Or}
use Rattle.state_rules.specs.Graphs.{Node, node_at}
use Rattle.minimiser.specs.inner.Swept.{is_child}

abbrev pub lowered : Bool → ℕ → ℕ → ℕ
lowered lower cost old = if lower then min old cost else old

-- the cost of the other children of an And node, from its cost and that of one child
abbrev pub others_cost : NodeKind → ℕ → ℕ → ℕ
others_cost (Literal positive var) own child = 0
others_cost And own child = own - child
others_cost Or own child = 0

-- the cost outside a child of a node, by way of that node
abbrev pub outside_below : List Node → List ℕ → List ℕ → ℕ → ℕ → ℕ
outside_below nodes values outside node child =
    slice_index outside node + others_cost (node_at nodes node).what (slice_index values node) (slice_index values child)

-- by way of some parent, the cost outside a node is at most its number in `outside`
pub record HasOutsideParent (nodes : List Node) (values outside : List ℕ) (node : ℕ) : Type 0 where
  pub parent : ℕ
  pub within : parent < length nodes
  pub child : is_child (node_at nodes parent).kids node ≡ true
  pub cheap : outside_below nodes values outside parent node ≤ slice_index outside node

-- The least costs outside all nodes that have a value, when the nodes from `from` on have lowered those of their children. Costs from
-- the limit on are none.
pub record AreOutsideCosts (nodes : List Node) (values outside : List ℕ) (from : ℕ) : Type 0 where
  pub root : slice_index outside (length nodes - 1) ≡ 0
  pub down : (parent child : ℕ) → from ≤ parent → parent < length nodes → is_child (node_at nodes parent).kids child ≡ true
      → slice_index outside child ≤ outside_below nodes values outside parent child
  pub up : (node : ℕ) → node < length nodes → slice_index outside node < 2147483647
      → (node ≡ length nodes - 1) ⊎ HasOutsideParent nodes values outside node
