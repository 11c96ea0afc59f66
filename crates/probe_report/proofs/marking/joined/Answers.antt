use Rattle.state_rules.proofs.WordBits.{joined_more}
use Rattle.probe_report.specs.inner.Outside.{mark_at}
use Rattle.probe_report.proofs.marking.joined.Goals as goal

pub loop-k-preserved : goal.loop-k-preserved
loop-k-preserved c b = rw c.mark_at-any.ensures (joined_more (λ k. mark_at c.args.marks.now k) _ _ _ b c.loop-k-test.true (c.loop-k.invariant b))
