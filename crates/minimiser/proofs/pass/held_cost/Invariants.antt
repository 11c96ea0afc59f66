use Rattle.std.proofs.Common.{◌≡◌, ◌≤◌, ◌+◌, drop}
use Rattle.conditioner.specs.Models.{total_cost}
use Rattle.minimiser.specs.inner.Held.{held_cost}
use Rattle.minimiser.proofs.pass.held_cost.Given as goal

-- the cost so far and that of the parts that are left; and they fit
abbrev pub invariant-loop-part : goal.invariant-loop-part
invariant-loop-part l = record {
  cost : l.total + held_cost (drop l.part l.costs) (drop l.part l.evidence) ≡ held_cost l.costs l.evidence;
  few : l.total + total_cost (drop l.part l.costs) ≤ total_cost l.costs;
}
