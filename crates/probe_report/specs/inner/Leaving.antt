-- Wires that are left, 64 at a time.
use Rattle.std.specs.Prelude.{◌≡◌, ℕ, ◌+◌, ◌-◌, ◌<◌, ◌≤◌, ◌⊎◌, true, false, List, length, slice_index}
use Rattle.state_rules.specs.declared.nodes.NodeKind.TheVariants.{Or}
use Rattle.state_rules.specs.Graphs.{Node, node_at, mentions}
use Rattle.state_rules.specs.Bits.{has_bit}
use Rattle.minimiser.specs.inner.Swept.{is_child}
use Rattle.probe_report.specs.inner.Outside.{IsLowered, mark_at}

-- the marks of the nodes before `at` say which of the 64 variables from `first` on they mention
abbrev pub IsMarked : List Node → ℕ → ℕ → List ℕ → Type 0
IsMarked nodes first at marks =
    (node b : ℕ) → node < at → b < 64 → has_bit (mark_at marks node) b ≡ mentions nodes (first + b) node

-- at a child of an Or node, by the marks of both
pub record LeftChild (values marks kids : List ℕ) (mark outside start place cost : ℕ) : Type 0 where
  pub child : ℕ
  pub is_child_of : is_child kids child ≡ true
  pub has : has_bit mark (place - start) ≡ true
  pub lacks : has_bit (mark_at marks child) (place - start) ≡ false
  pub value : slice_index values child < 2147483647
  pub is : cost ≡ outside + slice_index values child

-- at an Or node
pub record LeftNode (nodes : List Node) (values outside marks : List ℕ) (node start place cost : ℕ) : Type 0 where
  pub or_ : (node_at nodes node).what ≡ Or
  pub small : slice_index outside node < 2147483647
  pub left : LeftChild values marks (node_at nodes node).kids (mark_at marks node) (slice_index outside node) start place cost

-- the numbers of the 64 wires from `start` on are lowered, and the others stay
pub record LowersBlock (start : ℕ) (Cost : ℕ → ℕ → Type 0) (old new : List ℕ) : Type 0 where
  pub inside : (i : ℕ) → start ≤ i → i < start + 64 → i < length old → IsLowered (Cost i) (slice_index old i) (slice_index new i)
  pub others : (i : ℕ) → i < length old → (i < start) ⊎ (start + 64 ≤ i) → slice_index new i ≡ slice_index old i
