use Rattle.std.proofs.Common.{◌-◌, ◌^◌, length}
use Rattle.state_rules.specs.Bits.{row_number}
use Rattle.clause_search.proofs.Exhausted.{IsTried}
use Rattle.clause_search.proofs.exhaustion.try_all.Given as goal

abbrev pub invariant-tries : goal.invariant-tries
invariant-tries l = IsTried l.kernel l.literals (length l.bits) (row_number l.bits)

abbrev pub decreases-tries : goal.decreases-tries
decreases-tries l = 2 ^ length l.bits - row_number l.bits
