use Rattle.std.proofs.Common.{get_or, arith}
use Rattle.part_sets.specs.Numbers.{has_number}
use Rattle.part_sets.proofs.SetBits.{added_more}
use Rattle.part_sets.proofs.numbers.add_all.Goals as goal

pub loop-i-preserved : goal.loop-i-preserved
loop-i-preserved c = added_more c.args.set.now c.loop-i.set (has_number c.args.other.now) c.loop-i.i (get_or c.args.other.now c.loop-i.i 0) (omega arith) c.loop-i.invariant (λ n e. grind arith)
