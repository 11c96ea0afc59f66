-- The device of parts and wires in any order, or the reason why there is none.
use Rattle.std.specs.Prelude.{ℕ, not, List, [], ◌∷◌, map, length, Option, Some, None, Result, Ok, Err, slice_index_or, nat_lt, position, if◌then◌else◌}
use Rattle.std.specs.List.{position_or_len}
use Rattle.text_rules.specs.Names.{Name, same_name, is_among}
use Rattle.device_model.specs.declared.gates.Kind.{Kind}
use Rattle.device_model.specs.declared.component.Component.{Component}
use Rattle.device_model.specs.declared.building.BuildError.{BuildError}
use Rattle.device_model.specs.declared.building.BuildError.TheVariants.{TooMany, TwoParts, TwoWires, Arity, NoWire, Memory}
use Rattle.device_model.specs.declared.limits.TheConstants.{PART_LIMIT, WIRE_LIMIT}
use Rattle.device_model.specs.TruthTable.{TruthTable}
use Rattle.device_model.specs.Order.{sorted_distinct}
use Rattle.device_model.specs.Devices.{Device, part_names, has_arity, has_wires}

-- the place of a name
abbrev pub place_in : List Name → Name → ℕ
place_in names name = position_or_len (same_name name) names

-- a part whose ports are places in the given `wires`, with their places in the sorted wires instead
abbrev pub renumbered : List Name → Component → Component
renumbered wires part =
    record part { ports = map (λ port. place_in (sorted_distinct (λ n. n) wires) (slice_index_or wires port [])) part.ports }

abbrev pub device_of : List Component → List Name → List TruthTable → Device
device_of parts wires tables = record {
  parts = sorted_distinct (λ (part : Component). part.name) (map (renumbered wires) parts);
  wires = sorted_distinct (λ n. n) wires;
  tables = tables;
}

-- a part with the names of the wires at its ports
pub record NamedPart : Type 0 where
  pub name : Name
  pub kind : Kind
  pub wires : List Name

-- the part with the places of its wires in `wires` as ports
abbrev pub joined : List Name → NamedPart → Component
joined wires part = record { name = part.name; kind = part.kind; ports = map (place_in wires) part.wires }

-- the device of parts over named wires
abbrev pub device_over : List NamedPart → List Name → List TruthTable → Device
device_over parts wires tables =
    let sorted = sorted_distinct (λ n. n) wires in
    record { parts = sorted_distinct (λ (part : Component). part.name) (map (joined sorted) parts); wires = sorted; tables = tables }

-- each name that occurs again later
abbrev pub repeated : List Name → List Name
repeated [] = []
repeated (name ∷ names) = if is_among names name then name ∷ repeated names else repeated names

-- the reason of an error; lack of memory is none
abbrev pub reason : BuildError → Option BuildError
reason Memory = None
reason error = Some error

-- the error of the first name, or `otherwise`
abbrev pub unless_name : (Name → BuildError) → List Name → Result Device BuildError → Result Device BuildError
unless_name error [] otherwise = otherwise
unless_name error (name ∷ names) otherwise = Err (error name)

abbrev pub unless_place : (ℕ → BuildError) → Option ℕ → Result Device BuildError → Result Device BuildError
unless_place error None otherwise = otherwise
unless_place error (Some place) otherwise = Err (error place)

-- The device, or the first of these reasons: too many parts, too many wires, the least name that two parts have, the least
-- that two wires have, the first part whose kind takes another number of ports, the first with a port at no wire.
abbrev pub built : List Component → List Name → List TruthTable → Result Device BuildError
built parts wires tables =
    if nat_lt PART_LIMIT (length parts) then Err (TooMany (length parts))
    else if nat_lt WIRE_LIMIT (length wires) then Err (TooMany (length wires))
    else unless_name TwoParts (sorted_distinct (λ n. n) (repeated (part_names parts)))
    (unless_name TwoWires (sorted_distinct (λ n. n) (repeated wires))
    (unless_place Arity (position (λ part. not (has_arity tables part)) parts)
    (unless_place NoWire (position (λ part. not (has_wires (length wires) part)) parts)
    (Ok (device_of parts wires tables)))))
