use Rattle.device_model.specs.Devices.{part_names}
use Rattle.device_model.specs.inner.Sorting.{NeighboursDiffer}
use Rattle.device_model.proofs.building.repeated_part.Given as goal

abbrev pub invariant-loop-place : goal.invariant-loop-place
invariant-loop-place l = NeighboursDiffer (part_names l.parts) l.place
