use Rattle.std.proofs.Common.{◌≡◌, ◌+◌, ◌^◌}
use Rattle.state_rules.specs.Bits.{row_number}
use Rattle.clause_search.proofs.exhaustion.advance.Given as goal

abbrev pub invariant-loop-at : goal.invariant-loop-at
invariant-loop-at l = row_number l.bits + 2 ^ l.at ≡ row_number l.initial.bits + 1
