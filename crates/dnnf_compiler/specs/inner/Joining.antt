-- What stays while nodes are made.
use Rattle.std.specs.Prelude.{◌≡◌, ℕ, ◌<◌, ◌≤◌, Bool, false, List, length, slice_get, Some}
use Rattle.state_rules.specs.Assignments.{Assignment}
use Rattle.state_rules.specs.Graphs.{Node, is_true, mentions}
use Rattle.node_store.specs.Stores.{is_bare}

-- Old nodes keep their truth and their variables.
pub record Grows (old new : List Node) : Type 0 where
  pub longer : length old ≤ length new
  pub truth : (k : ℕ) (a : Assignment) → k < length old → is_true new k a ≡ is_true old k a
  pub variables : (k v : ℕ) → k < length old → mentions new v k ≡ mentions old v k

-- a node that is always true, or always false, and mentions nothing
pub record IsConstant (nodes : List Node) (value : Bool) (node : ℕ) : Type 0 where
  pub within : node < length nodes
  pub truth : (a : Assignment) → is_true nodes node a ≡ value
  pub variables : (v : ℕ) → mentions nodes v node ≡ false

-- the node at a place is no constant
abbrev pub IsPlain : List Node → ℕ → Type 0
IsPlain nodes k = (node : Node) → slice_get nodes k ≡ Some node → is_bare node.what node.kids ≡ false
