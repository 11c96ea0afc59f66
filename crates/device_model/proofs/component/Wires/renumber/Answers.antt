use Rattle.std.proofs.Common.{slice_index, arith}
use Rattle.std.proofs.lemmas.List.{get_or_default}
use Rattle.std.proofs.lemmas.List.Edits.{map_over_more}
use Rattle.device_model.proofs.component.Wires.renumber.Goals as goal

pub loop-place-preserved : goal.loop-place-preserved
loop-place-preserved c = grind (arith, map_over_more (slice_index c.args.places.now) c.deref_mut-place-items.result.now c.loop-place.place-items c.loop-place.place-index, get_or_default)
