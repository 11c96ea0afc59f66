-- Netlists with flip-flops: the device, in which a flip-flop is a buffer, and which of its parts are flip-flops.
use Rattle.std.specs.Prelude.{ℕ, ◌≤◌, Bool, List, [], ◌∷◌, map, length, Result, All}
use Rattle.std.specs.List.{filter, filter_map, flat_map, enumerate_from}
use Rattle.std.specs.Result.{result_map_both}
use Rattle.text_rules.specs.declared.names.TheConstants.{SHORT_NAME_LIMIT}
use Rattle.text_rules.specs.Names.{Name, is_among}
use Rattle.device_model.specs.declared.component.Component.{Component}
use Rattle.device_model.specs.Devices.{Device, part_names}
use Rattle.bench_reader.specs.declared.kinds.FlipFlops.TheVariants.{Taken}
use Rattle.bench_reader.specs.declared.kinds.NamedKind.TheVariants.{Sequential as KeepsItsValue}
use Rattle.bench_reader.specs.declared.sequential.Sequential.{Sequential}
use Rattle.bench_reader.specs.Faults.{Fault}
use Rattle.bench_reader.specs.Statements.{Statement, Gate}
use Rattle.bench_reader.specs.Netlists.{statement_in, readings, netlist_with}

-- the output of a flip-flop
abbrev pub flip_flop : Statement → List Name
flip_flop (Gate output KeepsItsValue inputs) = output ∷ []
flip_flop statement = []

-- the outputs of the flip-flops among `statements`
abbrev pub flip_flops : List (ℕ × Statement) → List Name
flip_flops statements = flat_map (λ (s : ℕ × Statement). flip_flop s.1) statements

-- the places of the names that pass `test`
abbrev pub places_where : (Name → Bool) → List Name → List ℕ
places_where test names = map (λ (n : ℕ × Name). n.0) (filter (λ (n : ℕ × Name). test n.1) (enumerate_from 0 names))

-- The device of `text` with flip-flops taken, and the places of its flip-flops (a part has the name of its output); or the first fault.
abbrev pub sequential_netlist : List ℕ → Result Sequential Fault
sequential_netlist text =
    let outputs = flip_flops (filter_map statement_in (readings Taken text)) in
    result_map_both (λ (device : Device). record { device = device; delayed = places_where (is_among outputs) (part_names device.parts) })
    (λ fault. fault) (netlist_with Taken text)

-- no name of a part or wire is longer than a name in a file may be
pub record HasShortNames (device : Device) : Type 0 where
  pub parts : All (λ (part : Component). length part.name ≤ SHORT_NAME_LIMIT) device.parts
  pub wires : All (λ (name : Name). length name ≤ SHORT_NAME_LIMIT) device.wires
