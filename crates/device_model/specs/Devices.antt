-- Devices, and the bits of the wires that fit a health state.
use Rattle.std.specs.Prelude.{◌≡◌, ℕ, ◌-◌, ◌≤◌, Bool, true, false, ◌&&◌, List, [], ◌∷◌, map, length, take, ◌==◌, Option, Some, None, slice_get, nat_lt, position}
use Rattle.std.specs.List.{list_all}
use Rattle.text_rules.specs.Names.{Name, same_name, names_rise}
use Rattle.state_rules.specs.Bits.{bit_in, same_bit, row_number, has_bit}
use Rattle.device_model.specs.declared.gates.Gate.{Gate}
use Rattle.device_model.specs.declared.gates.Rule.{Rule}
use Rattle.device_model.specs.declared.gates.Rule.TheVariants.{Gate as OfGate, Table as OfTable}
use Rattle.device_model.specs.declared.component.Component.{Component}
use Rattle.device_model.specs.declared.limits.TheConstants.{PART_LIMIT, WIRE_LIMIT}
use Rattle.device_model.specs.Gates.{rule, takes, gate_value}
use Rattle.device_model.specs.TruthTable.{TruthTable}

-- Parts and wires are each in the order of their names. A port of a part is the place of a wire.
pub record Device : Type 0 where
  pub parts : List Component
  pub wires : List Name
  pub tables : List TruthTable

abbrev pub part_names : List Component → List Name
part_names parts = map (λ (part : Component). part.name) parts

-- the place of `name` in `names`
abbrev pub place_of : Name → List Name → Option ℕ
place_of name names = position (same_name name) names

-- A faulty gate allows every row, an ok one each row whose last bit is the gate's value of the others.
abbrev pub gate_allows : Gate → Bool → List Bool → Bool
gate_allows gate false row = true
gate_allows gate true row =
    let inputs = length row - 1 in same_bit (bit_in row inputs) (gate_value gate (take inputs row))

abbrev pub table_allows : TruthTable → Bool → List Bool → Bool
table_allows rows true row = has_bit rows.ok (row_number row)
table_allows rows false row = has_bit rows.bad (row_number row)

-- a part whose table is missing allows nothing
abbrev pub any_table_allows : Option TruthTable → Bool → List Bool → Bool
any_table_allows None ok row = false
any_table_allows (Some rows) ok row = table_allows rows ok row

-- whether a part of this rule, ok or faulty, allows the bits of its ports
abbrev pub allows : List TruthTable → Rule → Bool → List Bool → Bool
allows tables (OfTable t) ok row = any_table_allows (slice_get tables t) ok row
allows tables (OfGate gate) ok row = gate_allows gate ok row

abbrev pub part_allows : List TruthTable → Component → Bool → List Bool → Bool
part_allows tables part ok wires = allows tables (rule part.kind) ok (map (bit_in wires) part.ports)

-- whether each part allows the bits of its wires
abbrev pub parts_fit : List TruthTable → List Component → List Bool → List Bool → Bool
parts_fit tables [] state wires = true
parts_fit tables (part ∷ parts) [] wires = false
parts_fit tables (part ∷ parts) (ok ∷ state) wires = part_allows tables part ok wires && parts_fit tables parts state wires

abbrev pub fits : Device → List Bool → List Bool → Bool
fits device state wires = parts_fit device.tables device.parts state wires

abbrev pub table_cost : Option TruthTable → ℕ
table_cost None = 1
table_cost (Some rows) = rows.cost

-- the cost of a failure of a part of this rule: 1 for a gate, the cost of its table for a part of a type
abbrev pub rule_cost : List TruthTable → Rule → ℕ
rule_cost tables (OfTable t) = table_cost (slice_get tables t)
rule_cost tables (OfGate gate) = 1

abbrev pub part_costs : Device → List ℕ
part_costs device = map (λ (part : Component). rule_cost device.tables (rule part.kind)) device.parts

abbrev pub rows_take : Option TruthTable → ℕ → Bool
rows_take None ports = false
rows_take (Some rows) ports = rows.ports == ports

-- whether a part of this rule takes `ports` ports; the last port of a gate is its output
abbrev pub takes_ports : List TruthTable → Rule → ℕ → Bool
takes_ports tables (OfTable t) ports = rows_take (slice_get tables t) ports
takes_ports tables (OfGate gate) ports = takes gate (ports - 1)

abbrev pub has_arity : List TruthTable → Component → Bool
has_arity tables part = takes_ports tables (rule part.kind) (length part.ports)

-- whether each port is the place of one of `wires` wires
abbrev pub has_wires : ℕ → Component → Bool
has_wires wires part = list_all (λ port. nat_lt port wires) part.ports

-- what is true of every device
pub record IsDevice (device : Device) : Type 0 where
  pub parts_rise : names_rise (part_names device.parts) ≡ true
  pub wires_rise : names_rise device.wires ≡ true
  pub arities : list_all (has_arity device.tables) device.parts ≡ true
  pub joined : list_all (has_wires (length device.wires)) device.parts ≡ true
  pub few_parts : length device.parts ≤ PART_LIMIT
  pub few_wires : length device.wires ≤ WIRE_LIMIT
