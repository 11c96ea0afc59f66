use Rattle.std.proofs.Common.{◌≡◌, ◌-◌, List, ◌++◌}
use Rattle.std.specs.List.{flat_map, range_with_len}
use Rattle.adder_load.specs.Readings.{Reading, readings_at, readings}
use Rattle.adder_load.specs.inner.Noting.{Notes}
use Rattle.adder_load.proofs.readings.note_readings.Given as goal

-- what was noted, and what is left, are all readings
abbrev pub invariant-loop-place : goal.invariant-loop-place
invariant-loop-place l =
    (noted : List Reading) × Notes l.device l.fn.evidence l.evidence noted
    × (noted ++ flat_map readings_at (range_with_len l.place (l.places - l.place)) ≡ readings l.places)
