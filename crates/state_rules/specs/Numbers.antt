-- Least costs as words.
use Rattle.std.specs.Prelude.{ℕ, ◌+◌, ◌/◌, ◌==◌, Bool, Option, Some, None, List, length, slice_index, if◌then◌else◌}
use Rattle.state_rules.specs.declared.numbers.TheConstants.{NO_COST}

-- the greatest number means no cost
abbrev pub cost_in : ℕ → Option ℕ
cost_in n = if n == NO_COST then None else Some n

-- The least cost if a wire has a bit, from the numbers of the wires: first those for wires at 0, then those for wires at 1.
abbrev pub probed : List ℕ → ℕ → Bool → Option ℕ
probed numbers wire bit = cost_in (slice_index numbers (if bit then length numbers / 2 + wire else wire))
