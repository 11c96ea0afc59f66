use Rattle.std.proofs.Common.{◌≡◌, ◌++◌, ℕ, List, map, take}
use Rattle.clause_encoder.specs.Clauses.{var_of}
use Rattle.elimination_forests.specs.Branches.{first_met, same_variable}
use Rattle.branch_states.proofs.order.meet_all.Given as goal

abbrev pub invariant-loop-literal : goal.invariant-loop-literal
invariant-loop-literal l =
    (vs : List ℕ) → l.fn.variables.keys ≡ first_met same_variable vs → l.variables.keys ≡ first_met same_variable (vs ++ map var_of (take l.literal-index l.clause))
