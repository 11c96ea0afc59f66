-- Marks of nodes in their values, as a sweep sets them.
use Rattle.std.specs.Prelude.{◌≡◌, ℕ, ◌+◌, ◌-◌, ◌<◌, ◌≤◌, ◌⊎◌, Bool, true, not, ◌&&◌, List, length, slice_index, nat_le, nat_lt, ◌==◌, Option, Some, None, if◌then◌else◌}
use Rattle.std.specs.List.{list_any}
use Rattle.state_rules.specs.declared.nodes.NodeKind.{NodeKind}
use Rattle.state_rules.specs.declared.nodes.NodeKind.TheVariants.{Literal, And, Or}
use Rattle.state_rules.specs.Graphs.{Node, node_at}

-- a cost, or the number that means none
abbrev pub IsValue : ℕ → Type 0
IsValue value = (value < 2147483647) ⊎ (value ≡ 4294967295)

-- a mark is the highest bit, which no cost has; the greatest number means no cost
abbrev pub has_mark : ℕ → Bool
has_mark value = nat_le 2147483648 value && nat_lt value 4294967295

abbrev pub unmarked : ℕ → ℕ
unmarked value = if has_mark value then value - 2147483648 else value

abbrev pub IsMarked : List ℕ → ℕ → Type 0
IsMarked values node = has_mark (slice_index values node) ≡ true

abbrev pub is_child : List ℕ → ℕ → Bool
is_child kids node = list_any (λ k. k == node) kids

-- a child's value gets a mark if it is at most `cost`
abbrev pub spread_value : List ℕ → ℕ → ℕ → ℕ → ℕ
spread_value kids cost node value = if is_child kids node && nat_le value cost then value + 2147483648 else value

-- a node is a child of a marked one, and costs no more
pub record HasMarkedParent (nodes : List Node) (costs values : List ℕ) (node : ℕ) : Type 0 where
  pub parent : ℕ
  pub within : parent < length nodes
  pub marked : IsMarked values parent
  pub child : is_child (node_at nodes parent).kids node ≡ true
  pub cheap : slice_index costs node ≤ slice_index costs parent

-- the costs with marks, at the root and below it, when the nodes from `from` on have marked their children that cost no more
pub record IsSwept (nodes : List Node) (costs values : List ℕ) (from : ℕ) : Type 0 where
  pub kept : (k : ℕ) → k < length nodes → unmarked (slice_index values k) ≡ slice_index costs k
  pub root : IsMarked values (length nodes - 1)
  pub down : (k j : ℕ) → from ≤ k → k < length nodes → IsMarked values k → j < length nodes
      → is_child (node_at nodes k).kids j ≡ true → slice_index costs j ≤ slice_index costs k → IsMarked values j
  pub up : (k : ℕ) → k < length nodes → IsMarked values k → (k ≡ length nodes - 1) ⊎ HasMarkedParent nodes costs values k

-- the part of an open literal that says faulty
abbrev pub suspect_of : List ℕ → ℕ → NodeKind → Option ℕ
suspect_of evidence parts (Literal positive var) =
    if not positive && (nat_le var parts && (slice_index evidence (var - 1) == 0)) then Some (var - 1) else None
suspect_of evidence parts And = None
suspect_of evidence parts Or = None

-- the same, of a marked node
abbrev pub suspect_at : List Node → List ℕ → ℕ → List ℕ → ℕ → Option ℕ
suspect_at nodes evidence parts values node =
    if has_mark (slice_index values node) then suspect_of evidence parts (node_at nodes node).what else None
