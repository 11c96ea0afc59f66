-- What the functions of this crate promise each other about the order and the clauses. Only private contracts cite it.
use Rattle.std.specs.Prelude.{◌≡◌, ℕ, ◌≤◌, true, List, length}
use Rattle.clause_encoder.specs.Clauses.{ClauseList, is_clause_list}
use Rattle.clause_encoder.specs.declared.limits.TheConstants.{CLAUSE_LIMIT}
use Rattle.elimination_forests.specs.Branches.{order}

-- what `Branches` keeps of its clauses at a level
pub record IsKept (cnf : ClauseList) (level : ℕ) (variables : List ℕ) : Type 0 where
  pub valid : is_clause_list cnf ≡ true
  pub most : length cnf.clauses ≤ CLAUSE_LIMIT
  pub ordered : variables ≡ order cnf.clauses
  pub few : length variables ≤ cnf.vars
  pub within : level ≤ length variables
