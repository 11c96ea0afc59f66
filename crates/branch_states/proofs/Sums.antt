-- The sum of the levels, from that along the forest that is their order.
use Rattle.std.proofs.Common.{◌≡◌, ℕ, ◌+◌, Bool, true, List, arith}
use Rattle.std.specs.Prelude.{if◌then◌else◌}
use Rattle.clause_encoder.specs.Clauses.{ClauseList, is_clause_list}
use Rattle.elimination_forests.specs.Branches.{order, sum_of}
use Rattle.elimination_forests.specs.declared.steps.Weight.TheVariants.{Words}
use Rattle.elimination_forests.specs.declared.steps.Step.{Step}
use Rattle.elimination_forests.specs.Forests.{Forest, steps_of, is_forest_of, root, chain, forest_sum, forks_on, leads_on}
use Rattle.elimination_forests.proofs.Chains.{chain-forest}
use Rattle.elimination_forests.proofs.LastWays.{chain-last}

pub whole-sum : (cnf : ClauseList) → is_clause_list cnf ≡ true → (steps : List Step) (sum : ℕ) (leads : Bool) → steps ≡ steps_of (chain (order cnf.clauses))
    → ((forest : Forest) → steps ≡ steps_of forest → is_forest_of forest cnf ≡ true → sum ≡ forest_sum Words forest cnf.clauses)
    → ((forest : Forest) → steps ≡ steps_of forest → is_forest_of forest cnf ≡ true → leads ≡ leads_on (forks_on forest (root cnf.clauses)))
    → sum + (if leads then 1 else 0) ≡ 1 + sum_of cnf.clauses
whole-sum cnf valid steps sum leads e s l = grind (arith, chain-forest, chain-last)
