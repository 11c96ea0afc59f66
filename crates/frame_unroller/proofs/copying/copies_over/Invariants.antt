use Rattle.std.proofs.Common.{◌≡◌, ◌-◌}
use Rattle.frame_unroller.specs.inner.Copying.{AreCopies}
use Rattle.frame_unroller.proofs.copying.copies_over.Given as goal

-- what was made so far is for the times so far
abbrev pub invariant-loop-time : goal.invariant-loop-time
invariant-loop-time l = record {
  frames : l.made.frames ≡ l.frames;
  are : AreCopies l.seq (l.time - 1) l.made.parts.items l.made.places.items l.made.wires.items;
}
