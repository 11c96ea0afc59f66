use Rattle.std.proofs.Common.{◌≡◌, ◌≤◌, ◌+◌, drop}
use Rattle.state_rules.specs.Ranking.{cost}
use Rattle.conditioner.specs.Models.{total_cost}
use Rattle.clause_answers.proofs.cores.bits_cost.Given as goal

-- the cost so far and that of the other parts, which fit
abbrev pub invariant-loop-part : goal.invariant-loop-part
invariant-loop-part l = record {
  cost : l.total + cost (drop l.part l.costs.items) (drop l.part l.bits) ≡ cost l.costs.items l.bits;
  few : l.total + total_cost (drop l.part l.costs.items) ≤ total_cost l.costs.items;
}
