use Rattle.std.proofs.Common.{ℕ, arith}
use Rattle.std.proofs.Math.ListN.{length-set}
use Rattle.fault_graph.proofs.MarkSpread.{marks-met}
use Rattle.fault_graph.proofs.marking.mark.Goals as goal

pub loop-at-preserved-then-places-at-eq-MARKED : goal.loop-at-preserved-then-places-at-eq-MARKED
loop-at-preserved-then-places-at-eq-MARKED c =
    marks-met c.args.graph.now c.len-count.ensures.valid c.args.values.now c.loop-at.places c.loop-at.at c.loop-at.invariant c.mark_children.new.places c.kids.result.now (omega arith) (omega (arith, c.len-count.ensures.len))
    (omega (arith, c.loop-at.auto.places, length-set {A = ℕ}, c.fill.auto.self, c.requires.room))
    c.kids.ensures.kids c.if-places-at-eq-MARKED.true c.mark_children.ensures
