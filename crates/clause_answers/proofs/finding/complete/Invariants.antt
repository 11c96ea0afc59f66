use Rattle.std.proofs.Common.{◌≡◌, ◌≤◌}
use Rattle.state_rules.specs.Bits.{AlikeBelow}
use Rattle.clause_answers.specs.inner.Listed.{Meets, AreOk, AreOrdered, signs}
use Rattle.clause_answers.proofs.Completing.{Reach}
use Rattle.clause_answers.proofs.finding.complete.Given as goal

abbrev pub invariant-loop-place : goal.invariant-loop-place
invariant-loop-place l = record {
  same : l.oracle ≡ record l.fn.oracle { bits = l.oracle.bits };
  oks : AreOk l.fn.oracle.question l.fn.oracle.low l.fn.oracle.high l.oks;
  ordered : AreOrdered l.literals l.place;
  meets : Meets l.fn.oracle.question l.fn.oracle.low l.fn.oracle.high l.oracle.bits;
  alike : AlikeBelow l.place l.oracle.bits (signs l.literals);
  front : AlikeBelow l.from (signs l.literals) (signs l.fn.literals);
  reach : Reach l.fn.oracle.question l.fn.oracle.low l.fn.oracle.high l.from (signs l.fn.literals) (signs l.literals) l.place;
}
