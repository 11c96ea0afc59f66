use Rattle.std.proofs.Common.{arith}
use Rattle.frame_unroller.proofs.TimeCopies.{copies_more}
use Rattle.frame_unroller.proofs.copying.copies_over.Goals as goal

pub loop-time-preserved : goal.loop-time-preserved
loop-time-preserved c = record {
  frames = c.loop-time.invariant.frames;
  are = copies_more c.args.seq.now _ (omega arith) _ _ _ _ _ _ c.loop-time.invariant.are c.in_ok-push_copies.ensures.copies c.in_ok-push_copies.ensures.places (grind (arith, c.in_ok-push_wires.ensures));
}
