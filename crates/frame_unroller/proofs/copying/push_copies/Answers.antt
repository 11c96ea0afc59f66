use Rattle.std.proofs.Common.{append_assoc, arith}
use Rattle.std.proofs.lemmas.List.{drop_more}
use Rattle.frame_unroller.proofs.copying.push_copies.Goals as goal
use Rattle.frame_unroller.proofs.copying.push_copies.Goals.{then-delays-place, else-delays-place, then-before-gt0+in_ok-copy_of+in_ok-push+in_ok-push-2, else-before-gt0}

pub loop-place-preserved : goal.loop-place-preserved
loop-place-preserved c =
    let place = c.loop-place.place in
    let said = c.requires.delays.say place (grind arith) in
    record {
      copies = elim c.if-before-gt0.branch [
        | then-before-gt0+in_ok-copy_of+in_ok-push+in_ok-push-2 w ↦ grind (arith, drop_more, append_assoc, w.in_ok-copy_of.ensures place)
        | else-before-gt0 w ↦ grind (arith, drop_more, append_assoc)
      ];
      places = elim c.if-before-gt0.branch [
        | then-before-gt0+in_ok-copy_of+in_ok-push+in_ok-push-2 w ↦ grind (arith, drop_more, append_assoc, w.in_ok-push-2.ensures.items, w.places-is, c.loop-place.invariant.places)
        | else-before-gt0 w ↦ grind (arith, drop_more, append_assoc)
      ];
    }
