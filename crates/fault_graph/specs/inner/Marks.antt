-- Which nodes are on derivations of least cost.
use Rattle.std.specs.Prelude.{◌≡◌, ℕ, ◌-◌, ◌<◌, ◌≤◌, ◌⊎◌, true, ◌&&◌, List, length, slice_index, if◌then◌else◌}
use Rattle.state_rules.specs.Graphs.{Node, node_at}
use Rattle.minimiser.specs.inner.Swept.{is_child}
use Rattle.fault_graph.specs.inner.Rows.{keeps}
use Rattle.fault_graph.specs.declared.minimising.TheConstants.{MARKED}

-- a child is marked if it costs something, and at most `cost`
abbrev pub mark_of : List ℕ → List ℕ → ℕ → ℕ → ℕ → ℕ
mark_of kids values cost node mark = if is_child kids node && keeps values cost node then MARKED else mark

-- a node is a child of a marked one, and costs no more
pub record HasMarkedParent (nodes : List Node) (values marks : List ℕ) (node : ℕ) : Type 0 where
  pub parent : ℕ
  pub within : parent < length nodes
  pub marked : slice_index marks parent ≡ MARKED
  pub child : is_child (node_at nodes parent).kids node ≡ true
  pub cheap : slice_index values node ≤ slice_index values parent

-- The root is marked. Marked nodes cost something, and no more than the root. Of each marked node from `from` on, the children that cost
-- something and no more than it are marked, and no others.
pub record AreMarks (nodes : List Node) (values marks : List ℕ) (from : ℕ) : Type 0 where
  pub root : slice_index marks (length nodes - 1) ≡ MARKED
  pub dear : (k : ℕ) → k < length nodes → slice_index marks k ≡ MARKED → 0 < slice_index values k
  pub low : (k : ℕ) → k < length nodes → slice_index marks k ≡ MARKED → slice_index values k ≤ slice_index values (length nodes - 1)
  pub down : (k j : ℕ) → from ≤ k → k < length nodes → slice_index marks k ≡ MARKED
      → is_child (node_at nodes k).kids j ≡ true → 0 < slice_index values j → slice_index values j ≤ slice_index values k
      → slice_index marks j ≡ MARKED
  pub up : (k : ℕ) → k < length nodes → slice_index marks k ≡ MARKED → (k ≡ length nodes - 1) ⊎ HasMarkedParent nodes values marks k
