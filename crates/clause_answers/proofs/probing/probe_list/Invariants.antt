use Rattle.std.proofs.Common.{◌≡◌, not}
use Rattle.clause_answers.specs.inner.Reported.{AreRight, AreOpen, AreKept}
use Rattle.clause_answers.proofs.probing.probe_list.Given as goal

abbrev pub invariant-loop-wire : goal.invariant-loop-wire
invariant-loop-wire l = record {
  same : l.oracle ≡ record l.fn.oracle { bits = l.oracle.bits };
  right : AreRight l.fn.oracle.question l.bit l.list l.wire;
  unknown : AreOpen l.fn.oracle.question l.bit l.list;
  others : AreKept l.fn.oracle.question (not l.bit) l.fn.other l.other;
}
