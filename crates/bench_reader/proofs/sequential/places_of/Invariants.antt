use Rattle.std.proofs.Common.{◌≡◌, ◌++◌, drop}
use Rattle.device_model.specs.Devices.{part_names}
use Rattle.bench_reader.specs.inner.FlipFlops.{is_kept}
use Rattle.bench_reader.proofs.FlipFlops.{places_from}
use Rattle.bench_reader.proofs.sequential.places_of.Given as goal

-- the places so far, and those of the parts left
abbrev pub invariant-loop-place : goal.invariant-loop-place
invariant-loop-place l =
    places_from (is_kept l.outputs) 0 (part_names l.parts) ≡ l.places.items ++ places_from (is_kept l.outputs) l.place (part_names (drop l.place l.parts))
