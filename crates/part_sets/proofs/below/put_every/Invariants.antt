use Rattle.std.proofs.Common.{◌≡◌, ℕ}
use Rattle.std.specs.Prelude.{nat_lt}
use Rattle.part_sets.specs.Numbers.{has_number}
use Rattle.part_sets.proofs.below.put_every.Given as goal

-- each number before this one is there, and no other
abbrev pub invariant-loop-number : goal.invariant-loop-number
invariant-loop-number l = (n : ℕ) → has_number l.set n ≡ nat_lt n l.number
