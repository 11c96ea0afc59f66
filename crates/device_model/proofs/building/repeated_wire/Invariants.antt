use Rattle.std.proofs.Common.{ℕ, map}
use Rattle.text_rules.specs.Names.{Name}
use Rattle.device_model.specs.inner.Sorting.{NeighboursDiffer}
use Rattle.device_model.proofs.building.repeated_wire.Given as goal

abbrev pub invariant-loop-place : goal.invariant-loop-place
invariant-loop-place l = NeighboursDiffer (map (λ (w : Name × ℕ). w.0) l.wires) l.place
