use Rattle.std.proofs.Common.{◌≡◌, ◌<◌, ◌≤◌, ◌*◌, take}
use Rattle.std.specs.List.{All, sum}
use Rattle.device_model.specs.declared.limits.TheConstants.{COST_LIMIT}
use Rattle.device_model.specs.Devices.{part_costs}
use Rattle.diag_cli.proofs.costs.costs_of.Given as goal

-- the costs of the parts so far
abbrev pub invariant-loop-part : goal.invariant-loop-part
invariant-loop-part l = record {
  same : l.costs.items ≡ take l.part (part_costs l.device);
  dear : All (λ c. 0 < c) l.costs.items;
  total : sum l.costs.items ≤ COST_LIMIT * l.part;
}
