use Rattle.std.proofs.Common.{arith}
use Rattle.smooth_nnf.proofs.LineLemmas.{kids-inside}
use Rattle.smooth_nnf.proofs.places.place_lines.Goals as goal

pub lines_to-line-requires-clause-kids : goal.lines_to-line-requires-clause-kids
lines_to-line-requires-clause-kids c k d h =
    omega (arith, c.requires.values, kids-inside c.args.graph.now c.len-at-end.ensures.valid c.loop-at.at (omega (arith, c.len-at-end.ensures.len, c.loop-at-test.true)) c.kids.result.now c.kids.ensures.kids k d h)
