-- Copies as the device is built from them: a port is a position among the wires by time.
use Rattle.std.specs.Prelude.{◌≡◌, ℕ, ◌+◌, ◌-◌, ◌*◌, List, ◌++◌, map, length}
use Rattle.std.specs.List.{flat_map}
use Rattle.device_model.specs.declared.component.Component.{Component}
use Rattle.frame_unroller.specs.Times.{times, wire_at, copy_at}
use Rattle.frame_unroller.specs.Frames.{inputs, output}
use Rattle.text_rules.specs.Names.{Name}
use Rattle.bench_reader.specs.declared.sequential.Sequential.{Sequential}
use Rattle.frame_unroller.specs.Unrolling.{Copy, copies, owners}

-- the position of a wire at a time, of `wires` wires
abbrev pub position_at : ℕ → ℕ → ℕ → ℕ
position_at wires t wire = (t - 1) * wires + wire

abbrev pub given_copy : ℕ → Copy → Component
given_copy wires copy = record {
  name = copy_at copy.now copy.part.name;
  kind = copy.part.kind;
  ports = map (position_at wires copy.before) (inputs copy.part) ++ map (position_at wires copy.now) (output copy.part);
}

-- the copies for `frames` frames, the places of their parts, and the wires at all times
pub record AreCopies (seq : Sequential) (frames : ℕ) (parts : List Component) (places : List ℕ) (wires : List Name) : Type 0 where
  pub parts_are : parts ≡ map (given_copy (length seq.device.wires)) (copies seq frames)
  pub places_are : places ≡ owners seq frames
  pub wires_are : wires ≡ flat_map (λ t. map (wire_at t) seq.device.wires) (times frames)
