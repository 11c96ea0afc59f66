use Rattle.std.proofs.Common.{◌-◌, get_or, arith}
use Rattle.part_sets.proofs.Children.{child-below, child-mentions}
use Rattle.part_sets.proofs.lacking.one_lacks.Goals as goal

pub loop-child-preserved : goal.loop-child-preserved
loop-child-preserved c j v lt l h =
    let kid = get_or c.kids-child-items.result.now c.loop-child.child-index 0 in
    grind (arith, child-below, child-mentions, c.loop-child.invariant j v, c.requires.below.nodes kid, c.requires.below.nodes c.args.at c.requires.at (v - 1), c.lacks.ensures.0 c.if-lacks.false (v - 1))
