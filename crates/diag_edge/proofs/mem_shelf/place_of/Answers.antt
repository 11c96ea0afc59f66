use Rattle.std.proofs.Common.{◌≡◌, ◌∙◌, sym, refl, slice_get, Some, arith}
use Rattle.std.proofs.lemmas.Grind.{common_steps}
use Rattle.std.proofs.lemmas.Option.{slice_get_read}
use Rattle.diag_edge.proofs.HeldFiles.{held_in-drop}
use Rattle.diag_edge.proofs.mem_shelf.place_of.Goals as goal

pub returns-then-eq-clause-some : goal.returns-then-eq-clause-some
returns-then-eq-clause-some c =
    let found : slice_get c.args.files.now c.loop-place.place ≡ Some c.index-files-place.result = slice_get_read _ _ _ _ refl c.loop-place-test.true c.index-files-place.is in
    sym c.loop-place.invariant ∙ held_in-drop c.args.files.now c.loop-place.place c.args.name.now c.index-files-place.result found (grind (arith, common_steps))
