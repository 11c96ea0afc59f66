use Rattle.std.proofs.Common.{arith}
use Rattle.probe_report.proofs.Marks.{left-more, left-same}
use Rattle.probe_report.proofs.leaving.lower_left.Goals as goal
use Rattle.probe_report.proofs.leaving.lower_left.Goals.{then-child-mark+then-value-lt-TOTAL_LIMIT, else-child-mark}

pub loop-k-preserved : goal.loop-k-preserved
loop-k-preserved c = elim c.if-child-mark.branch [
  | then-child-mark+then-value-lt-TOTAL_LIMIT w ↦ rw w.list-is (left-more _ _ _ _ _ _ _ c.loop-k-test.true _ _ _ c.loop-k.auto.list c.loop-k.invariant w.if-value-lt-TOTAL_LIMIT.true (grind arith))
  | else-child-mark w ↦ rw w.list-is (left-same _ _ _ _ _ _ _ c.loop-k-test.true _ _ c.loop-k.invariant (grind arith))
]
