use Rattle.std.proofs.Common.{arith}
use Rattle.part_sets.proofs.SetBits.{added_more}
use Rattle.level_lister.specs.inner.CostSets.{has_shifted}
use Rattle.level_lister.proofs.sets.add_shifted.Goals as goal

pub loop-i-preserved : goal.loop-i-preserved
loop-i-preserved c = added_more c.args.set.now c.loop-i.set (has_shifted c.args.other.now c.args.more) c.loop-i.i c.shifted_word.result (omega arith) c.loop-i.invariant c.shifted_word.ensures
