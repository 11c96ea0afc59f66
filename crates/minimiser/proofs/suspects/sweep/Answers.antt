use Rattle.std.proofs.Common.{◌≡◌, ◌+◌, ◌-◌, arith}
use Rattle.std.proofs.Math.ListN.{length-set}
use Rattle.minimiser.proofs.SpreadMarks.{child_before, swept-met}
use Rattle.minimiser.proofs.suspects.sweep.Goals as goal

pub loop-at-preserved-then-has_mark : goal.loop-at-preserved-then-has_mark
loop-at-preserved-then-has_mark c =
    let next : c.loop-at.at ≡ c.loop-at.at - 1 + 1 = omega arith in
    swept-met _ _ _ _ (c.loop-at.at - 1) (omega arith) (λ j i. child_before c.args.graph.now (c.loop-at.at - 1) j c.len-count.ensures.valid (omega arith) i) (rw next at c.loop-at.invariant) (grind arith) (grind (arith, length-set))
