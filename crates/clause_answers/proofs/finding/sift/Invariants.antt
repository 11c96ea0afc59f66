use Rattle.std.proofs.Common.{◌≡◌}
use Rattle.clause_answers.specs.inner.Listed.{AreOk}
use Rattle.clause_answers.proofs.finding.sift.Given as goal

abbrev pub invariant-loop-part : goal.invariant-loop-part
invariant-loop-part l = record {
  same : l.oracle ≡ record l.fn.oracle { bits = l.oracle.bits };
  oks : AreOk l.fn.oracle.question l.fn.oracle.low l.fn.oracle.high l.oks;
}
