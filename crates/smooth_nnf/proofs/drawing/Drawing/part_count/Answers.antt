use Rattle.std.proofs.Common.{arith}
use Rattle.smooth_nnf.proofs.WordParts.{node_parts, part_count-le}
use Rattle.smooth_nnf.proofs.drawing.Drawing.part_count.Goals as goal

pub returns-clause-most : goal.returns-clause-most
returns-clause-most c = grind (arith, part_count-le, node_parts c.args.self.now c.below.ensures.whole c.args.node c.requires c.set_at.result.now)
