use Rattle.std.proofs.Common.{◌≡◌, ◌++◌, map, drop, length}
use Rattle.std.specs.List.{flat_map, enumerate_from}
use Rattle.frame_unroller.specs.Unrolling.{Copy, copies_of, copies_for}
use Rattle.frame_unroller.specs.inner.Copying.{given_copy}
use Rattle.frame_unroller.proofs.copying.push_copies.Given as goal

-- the copies so far, and those of the parts left
abbrev pub invariant-loop-place : goal.invariant-loop-place
invariant-loop-place l = record {
  copies : l.initial.copies.items ++ map (given_copy (length l.seq.device.wires)) (copies_for l.seq l.time)
      ≡ l.copies.items ++ map (given_copy (length l.seq.device.wires)) (flat_map (copies_of l.seq l.time) (enumerate_from l.place (drop l.place l.seq.device.parts)));
  places : l.initial.places.items ++ map (λ (c : Copy). c.place) (copies_for l.seq l.time)
      ≡ l.places.items ++ map (λ (c : Copy). c.place) (flat_map (copies_of l.seq l.time) (enumerate_from l.place (drop l.place l.seq.device.parts)));
}
