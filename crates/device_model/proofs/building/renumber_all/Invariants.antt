use Rattle.std.proofs.Common.{◌≡◌, ◌++◌, map, take, drop}
use Rattle.device_model.specs.inner.Sorting.{with_places}
use Rattle.device_model.proofs.building.renumber_all.Given as goal

abbrev pub invariant-loop-part : goal.invariant-loop-part
invariant-loop-part l =
    l.parts ≡ map (with_places l.places) (take l.part-index l.initial.parts) ++ drop l.part-index l.initial.parts
