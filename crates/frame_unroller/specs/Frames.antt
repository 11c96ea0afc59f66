-- A netlist with flip-flops over several times, with one health state: the bits of the wires that fit.
use Rattle.std.specs.Prelude.{ℕ, ◌-◌, Bool, true, false, ◌||◌, List, ◌++◌, map, length, take, drop, ◌==◌, nat_le}
use Rattle.std.specs.List.{list_all, list_any, enumerate_from}
use Rattle.state_rules.specs.Bits.{bit_in}
use Rattle.device_model.specs.declared.component.Component.{Component}
use Rattle.device_model.specs.TruthTable.{TruthTable}
use Rattle.device_model.specs.Gates.{rule}
use Rattle.device_model.specs.Devices.{allows, part_allows}
use Rattle.bench_reader.specs.declared.sequential.Sequential.{Sequential}
use Rattle.frame_unroller.specs.Times.{times}

-- the bits of all wires at each time
abbrev pub Waves : Type 0
Waves = ℕ → List Bool

-- whether the part at a place is delayed
abbrev pub is_delayed : Sequential → ℕ → Bool
is_delayed seq place = list_any (λ d. d == place) seq.delayed

-- all ports except the last one, and the last one, which is the output
abbrev pub inputs : Component → List ℕ
inputs part = take (length part.ports - 1) part.ports

abbrev pub output : Component → List ℕ
output part = drop (length part.ports - 1) part.ports

-- Whether a part allows the bits of its wires at time `t`. For a delayed part these are its inputs at the time before and its
-- output at `t`; at the first time it allows any bits.
abbrev pub fits_at : List TruthTable → Bool → Component → Bool → Waves → ℕ → Bool
fits_at tables false part ok waves t = part_allows tables part ok (waves t)
fits_at tables true part ok waves t =
    nat_le t 1 || allows tables (rule part.kind) ok (map (bit_in (waves (t - 1))) (inputs part) ++ map (bit_in (waves t)) (output part))

-- whether each part fits at each time; it is ok at all times or faulty at all
abbrev pub frame_fits : Sequential → ℕ → List Bool → Waves → Bool
frame_fits seq frames state waves =
    list_all (λ t. list_all (λ (p : ℕ × Component). fits_at seq.device.tables (is_delayed seq p.0) p.1 (bit_in state p.0) waves t)
    (enumerate_from 0 seq.device.parts)) (times frames)
