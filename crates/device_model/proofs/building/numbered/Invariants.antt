use Rattle.std.proofs.Common.{◌≡◌, length}
use Rattle.device_model.specs.inner.Sorting.{numbered_from}
use Rattle.device_model.proofs.building.numbered.Given as goal

abbrev pub invariant-loop-wire : goal.invariant-loop-wire
invariant-loop-wire l =
    (goal.iterator-loop-wire).can_next l.wire-iterator ×
    (goal.iterator-loop-wire).is_finite l.wire-iterator ×
    (l.position ≡ length l.yielded) ×
    (l.numbered.items ≡ numbered_from 0 l.yielded)
