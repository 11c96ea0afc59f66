use Rattle.std.proofs.Common.{◌≡◌}
use Rattle.clause_answers.specs.inner.Listed.{AreOk}
use Rattle.clause_answers.specs.inner.Reported.{AreNoted, AreSettled}
use Rattle.clause_answers.proofs.blaming.settle.Given as goal

abbrev pub invariant-loop-part : goal.invariant-loop-part
invariant-loop-part l = record {
  same : l.oracle ≡ record l.fn.oracle { bits = l.oracle.bits };
  oks : AreOk l.fn.oracle.question l.fn.oracle.low l.fn.oracle.high l.oks;
  notes : AreNoted l.fn.oracle.question l.fn.oracle.low l.fn.oracle.high l.verdicts;
  settled : AreSettled l.fn.oracle.question l.fn.oracle.low l.fn.oracle.high l.verdicts l.part;
}
