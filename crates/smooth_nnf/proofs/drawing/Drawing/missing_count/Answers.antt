use Rattle.std.proofs.Common.{arith}
use Rattle.smooth_nnf.proofs.WordParts.{over-less}
use Rattle.smooth_nnf.proofs.drawing.Drawing.missing_count.Goals as goal

pub overflow_sub-result : goal.overflow_sub-result
overflow_sub-result c = omega (arith, over-less c.args.self.now c.part_count.ensures.whole c.args.over c.args.node c.requires.under)
