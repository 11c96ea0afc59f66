use Rattle.std.proofs.Common.{slice_index_or, ap, arith}
use Rattle.std.proofs.lemmas.List.Edits.{map_over_more}
use Rattle.device_model.specs.declared.component.Component.{Component}
use Rattle.device_model.specs.inner.Sorting.{with_places}
use Rattle.device_model.proofs.building.renumber_all.Goals as goal

pub loop-part-preserved : goal.loop-part-preserved
loop-part-preserved c =
    let i = c.loop-part.part-index in
    let ps = c.loop-part.parts in
    let q : Component = slice_index_or ps i c.part-item.result in
    grind (arith, map_over_more (with_places c.args.places.now) c.args.parts.now ps i q c.loop-part-test.true c.loop-part.invariant (ap (slice_index_or ps i) c.part-item.is))
