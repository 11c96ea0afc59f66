-- The health states of a netlist over several times that agree with a case. The wires are those at each time, by their names.
use Rattle.std.specs.Prelude.{ℕ, Bool, List, map, length}
use Rattle.std.specs.List.{flat_map}
use Rattle.text_rules.specs.Names.{Name}
use Rattle.state_rules.specs.Bits.{bit_in}
use Rattle.state_rules.specs.Ranking.{plain_costs}
use Rattle.state_rules.specs.Systems.{System}
use Rattle.device_model.specs.Diagnosis.{fitting_system}
use Rattle.device_model.specs.Order.{sorted_distinct}
use Rattle.device_model.specs.Devices.{part_names}
use Rattle.device_model.specs.Building.{place_in}
use Rattle.bench_reader.specs.declared.sequential.Sequential.{Sequential}
use Rattle.frame_unroller.specs.Times.{times, wire_at}
use Rattle.frame_unroller.specs.Frames.{frame_fits}

-- all wires at all times, in the order of their names
abbrev pub frame_wires : Sequential → ℕ → List Name
frame_wires seq frames = sorted_distinct (λ n. n) (flat_map (λ t. map (wire_at t) seq.device.wires) (times frames))

-- whether bits of all wires at all times fit
abbrev pub fits_over : Sequential → ℕ → List Bool → List Bool → Bool
fits_over seq frames state bits =
    frame_fits seq frames state (λ t. map (λ wire. bit_in bits (place_in (frame_wires seq frames) (wire_at t wire))) seq.device.wires)

-- the system: parts keep their names, and each failure costs 1
abbrev pub frame_system : Sequential → ℕ → System
frame_system seq frames =
    fitting_system (part_names seq.device.parts) (frame_wires seq frames) (plain_costs (length seq.device.parts)) (fits_over seq frames)
