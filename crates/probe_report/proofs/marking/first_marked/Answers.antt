use Rattle.std.proofs.Common.{arith}
use Rattle.probe_report.proofs.Marks.{none-literal, none-gate}
use Rattle.probe_report.proofs.marking.first_marked.Goals as goal
use Rattle.probe_report.proofs.marking.first_marked.Goals.{in-Literal+else-literal_mark-ne0, in_default}

pub loop-at-preserved : goal.loop-at-preserved
loop-at-preserved c =
    elim c.match-what.branch [
      | in-Literal+else-literal_mark-ne0 w ↦ none-literal _ c.len-count.ensures.valid _ _ (omega arith) c.loop-at.invariant _ _ _ w.in-Literal.ensures.what w.literal_mark.ensures w.if-literal_mark-ne0.false
      | in_default w ↦ none-gate _ c.len-count.ensures.valid _ _ (omega arith) c.loop-at.invariant (grind arith)
    ]
