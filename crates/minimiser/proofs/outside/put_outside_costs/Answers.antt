use Rattle.std.proofs.Common.{◌≡◌, ◌+◌, ◌-◌, arith}
use Rattle.std.proofs.Math.ListN.{length-set}
use Rattle.minimiser.proofs.OutsideCosts.{outside-met}
use Rattle.minimiser.proofs.outside.put_outside_costs.Goals as goal

pub loop-at-preserved : goal.loop-at-preserved
loop-at-preserved c =
    let next : c.loop-at.at ≡ c.loop-at.at - 1 + 1 = omega arith in
    outside-met _ c.len-count.ensures.valid _ _ _ (c.loop-at.at - 1) (omega arith) (rw next at c.loop-at.invariant) (grind (arith, length-set))
