use Rattle.std.proofs.Common.{◌≡◌, ◌≤◌, length}
use Rattle.state_rules.specs.Bits.{AlikeBelow}
use Rattle.diagnosis_lister.specs.inner.Fixing.{NoneAfter}
use Rattle.clause_answers.specs.inner.Listed.{Shows, AreOk, AreOrdered, signs}
use Rattle.clause_answers.proofs.finding.next_state.Given as goal

abbrev pub invariant-loop-place : goal.invariant-loop-place
invariant-loop-place l = record {
  same : l.oracle ≡ l.fn.oracle;
  oks : AreOk l.fn.oracle.question l.fn.oracle.low l.fn.oracle.high l.oks;
  within : l.place ≤ length l.literals;
  ordered : AreOrdered l.literals l.place;
  alike : AlikeBelow l.place (signs l.literals) (signs l.fn.literals);
  none : NoneAfter (λ h. Shows l.fn.oracle.question l.fn.oracle.low l.fn.oracle.high h) (signs l.fn.literals) l.place;
}
