-- Nodes that a store does not have yet.
use Rattle.std.specs.Prelude.{◌≡◌, ℕ, List, slice_get, Some}
use Rattle.state_rules.specs.Graphs.{Node}

-- no node equals this one
abbrev pub IsNew : List Node → Node → Type 0
IsNew nodes node = (i : ℕ) → slice_get nodes i ≡ Some node → ⊥
