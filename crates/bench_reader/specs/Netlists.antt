-- Netlists in `.bench` text: the device of a text, or its fault and the line of the fault.
use Rattle.std.specs.Prelude.{ℕ, ◌||◌, List, [], ◌∷◌, ◌++◌, map, length, Option, Some, None, option_map, Result, Ok, Err, nat_lt, if◌then◌else◌}
use Rattle.std.specs.List.{filter_map, flat_map, enumerate_from}
use Rattle.std.specs.Option.{option_to_list}
use Rattle.text_rules.specs.TextLines.{all_lines}
use Rattle.device_model.specs.declared.limits.TheConstants.{PART_LIMIT, WIRE_LIMIT}
use Rattle.device_model.specs.Devices.{Device}
use Rattle.device_model.specs.Building.{NamedPart, device_over}
use Rattle.bench_reader.specs.declared.kinds.FlipFlops.{FlipFlops}
use Rattle.bench_reader.specs.declared.kinds.FlipFlops.TheVariants.{Refused}
use Rattle.bench_reader.specs.declared.fault.BenchFault.{BenchFault}
use Rattle.bench_reader.specs.declared.fault.BenchFault.TheVariants.{DrivenTwice, Undriven, TooMany}
use Rattle.bench_reader.specs.Faults.{Fault, fault_at, unless_fault}
use Rattle.bench_reader.specs.Statements.{Statement, Gate, part_gate, reading}
use Rattle.bench_reader.specs.Signals.{driven_by_gate, driven, driven_twice, undriven}

-- the part of a gate or of a flip-flop: the wires at its ports are its inputs, then its output
abbrev pub part_of : Statement → List NamedPart
part_of (Gate output kind inputs) =
    option_to_list (option_map (λ gate. record { name = output; kind = gate; wires = inputs ++ output ∷ [] }) (part_gate kind))
part_of statement = []

-- a part for each gate, and a wire for each driven signal
abbrev pub device_of : List Statement → Device
device_of statements = device_over (flat_map part_of statements) (flat_map driven statements) []

abbrev pub fault_in : ℕ × Result (Option Statement) BenchFault → Option Fault
fault_in (line, Err what) = Some (fault_at what line)
fault_in (line, Ok statement) = None

abbrev pub statement_in : ℕ × Result (Option Statement) BenchFault → Option (ℕ × Statement)
statement_in (line, Ok (Some statement)) = Some (line, statement)
statement_in (line, other) = None

-- the faults of the statements together; the first one is reported. Too many parts or wires are a fault of line 0
abbrev pub faults_together : List (ℕ × Statement) → List Fault
faults_together statements =
    let all = map (λ (s : ℕ × Statement). s.1) statements in
    map (fault_at DrivenTwice) (driven_twice [] statements)
    ++ map (fault_at Undriven) (undriven (flat_map (λ (s : ℕ × Statement). driven s.1) statements) statements)
    ++ (if nat_lt PART_LIMIT (length (flat_map driven_by_gate all)) || nat_lt WIRE_LIMIT (length (device_of all).wires)
    then fault_at TooMany 0 ∷ [] else [])

-- the reading of each line of `text`, with line numbers from 1
abbrev pub readings : FlipFlops → List ℕ → List (ℕ × Result (Option Statement) BenchFault)
readings flip_flops text = enumerate_from 1 (map (reading flip_flops) (all_lines text))

-- the device of `text` or its first fault, with flip-flops refused or taken; faults of single lines come first
abbrev pub netlist_with : FlipFlops → List ℕ → Result Device Fault
netlist_with flip_flops text =
    let statements = filter_map statement_in (readings flip_flops text) in
    unless_fault (filter_map fault_in (readings flip_flops text) ++ faults_together statements)
    (device_of (map (λ (s : ℕ × Statement). s.1) statements))

-- the same for gates alone: a flip-flop is a fault
abbrev pub netlist : List ℕ → Result Device Fault
netlist text = netlist_with Refused text
