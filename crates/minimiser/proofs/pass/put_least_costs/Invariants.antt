use Rattle.std.proofs.Common.{◌≡◌, map, take, drop}
use Rattle.state_rules.specs.Numbers.{cost_in}
use Rattle.minimiser.specs.Stored.{costs_to}
use Rattle.minimiser.proofs.pass.put_least_costs.Given as goal

-- the nodes that are left, and the values of those before them
abbrev pub invariant-loop-node : goal.invariant-loop-node
invariant-loop-node g l = (drop l.at l.graph.nodes ≡ l.node-iterator) × (map cost_in (take l.at l.values) ≡ costs_to l.graph l.evidence l.costs l.at)
