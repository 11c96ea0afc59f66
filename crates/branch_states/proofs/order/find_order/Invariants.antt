use Rattle.std.proofs.Common.{◌≡◌, take, map}
use Rattle.std.specs.List.{flat_map}
use Rattle.clause_encoder.specs.Clauses.{var_of}
use Rattle.elimination_forests.specs.Branches.{first_met, same_variable}
use Rattle.branch_states.proofs.order.find_order.Given as goal

abbrev pub invariant-loop-at : goal.invariant-loop-at
invariant-loop-at l = l.variables.keys ≡ first_met same_variable (flat_map (map var_of) (take l.at l.cnf.clauses))
