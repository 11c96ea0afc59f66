use Rattle.std.proofs.Common.{◌≡◌, map}
use Rattle.std.specs.List.{range_with_len}
use Rattle.branch_states.proofs.ChainSteps.{chain_step}
use Rattle.branch_states.proofs.order.steps_down.Given as goal

abbrev pub invariant-loop-at : goal.invariant-loop-at
invariant-loop-at l = l.steps.items ≡ map (chain_step l.variables) (range_with_len 0 l.at)
