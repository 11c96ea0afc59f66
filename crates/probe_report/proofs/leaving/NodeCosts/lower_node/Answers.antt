use Rattle.std.proofs.Common.{arith}
use Rattle.probe_report.proofs.Marks.{node-left}
use Rattle.probe_report.proofs.leaving.NodeCosts.lower_node.Goals as goal

pub returns-in-Or : goal.returns-in-Or
returns-in-Or c = node-left _ _ _ _ _ _ _ _ _ (grind arith) c.if-outside-ge-TOTAL_LIMIT.false c.kids.ensures.kids (rw c.mark_at.ensures at c.lower_left.ensures)
