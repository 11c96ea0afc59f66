use Rattle.std.proofs.Common.{arith}
use Rattle.device_model.specs.Devices.{Device}
use Rattle.device_model.proofs.Costs.{has_table, table-cost}
use Rattle.device_model.proofs.device.Device.cost.Goals as goal

pub index-requires-in-Table : goal.index-requires-in-Table
index-requires-in-Table c =
    let inside : Device = record { parts = c.self.inside.parts.items; wires = c.self.inside.wires.items; tables = c.self.inside.tables.items } in
    grind (arith, has_table inside c.args.part c.index.result.now)

pub returns-in-Table-clause-cost : goal.returns-in-Table-clause-cost
returns-in-Table-clause-cost c =
    let inside : Device = record { parts = c.self.inside.parts.items; wires = c.self.inside.wires.items; tables = c.self.inside.tables.items } in
    grind (arith, table-cost inside c.args.part c.index.result.now)
