-- The cost of a failure of each part of a device.
use Rattle.std.proofs.Common.{◌≡◌, ℕ, ◌<◌, true, List, length, get_or, arith}
use Rattle.std.specs.Prelude.{slice_get, slice_index}
use Rattle.std.proofs.lemmas.List.{get_or-map}
use Rattle.std.proofs.lemmas.Option.{slice_get_cases, slice_get_read}
use Rattle.state_rules.proofs.Members.{In-at}
use Rattle.device_model.specs.declared.gates.Rule.TheVariants.{Table}
use Rattle.device_model.specs.declared.component.Component.{Component}
use Rattle.device_model.specs.TruthTable.{TruthTable}
use Rattle.device_model.specs.Gates.{rule}
use Rattle.device_model.specs.Devices.{Device, IsDevice, rows_take, has_arity, rule_cost, part_costs}
use Rattle.device_model.proofs.SortedDevices.{list_all-among}

table_there : (tables : List TruthTable) (t ports : ℕ) → rows_take (slice_get tables t) ports ≡ true → t < length tables
table_there tables t ports h = grind (arith, slice_get_cases)

module _ (device : Device) (place : ℕ) (part : Component) (within : place < length device.parts) (is : part ≡ get_or device.parts place part) where
  pub cost-at : slice_index (part_costs device) place ≡ rule_cost device.tables (rule part.kind)
  cost-at = grind (arith, get_or-map)

  -- the table of a part of a type exists
  pub has_table : (t : ℕ) → IsDevice device → rule part.kind ≡ Table t → t < length device.tables
  has_table t valid e = grind (arith, list_all-among (has_arity device.tables) device.parts valid.arities part, In-at device.parts place part within, table_there device.tables t (length part.ports))

  -- and the part has its table's cost
  pub table-cost : (t : ℕ) (rows : TruthTable) → IsDevice device → rule part.kind ≡ Table t → rows ≡ get_or device.tables t rows
      → rows.cost ≡ slice_index (part_costs device) place
  table-cost t rows valid e there = grind (arith, cost-at, slice_get_read, has_table)
