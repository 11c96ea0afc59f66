use Rattle.std.proofs.Common.{◌≡◌, ◌++◌, map, slice_index, take, drop}
use Rattle.device_model.proofs.component.Wires.renumber.Given as goal

abbrev pub invariant-loop-place : goal.invariant-loop-place
invariant-loop-place l =
    l.place-items ≡ map (slice_index l.places) (take l.place-index l.initial.place-items) ++ drop l.place-index l.initial.place-items
