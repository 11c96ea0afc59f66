-- Clauses that follow from rules.
use Rattle.std.specs.Prelude.{◌≡◌, ◌≤◌, ◌+◌, Bool, true, List, length}
use Rattle.state_rules.specs.Assignments.{Assignment}
use Rattle.clause_encoder.specs.Clauses.{Clause, is_true_clause, all_hold, is_clause_list}
use Rattle.clause_search.specs.Searching.{Rules, keeps, are_ordered}
use Rattle.clause_search.specs.declared.facts.Facts.{Facts}

-- all clauses are true
pub record AreTrue (a : Assignment) (facts : Facts) : Type 0 where
  pub given : all_hold a facts.given ≡ true
  pub learned : all_hold a facts.learned ≡ true

-- The given clauses are those of the rules, and the learned ones follow from the rules.
pub record Follow (rules : Rules) (facts : Facts) : Type 0 where
  pub valid : is_clause_list rules.cnf ≡ true
  pub given : facts.given ≡ rules.cnf.clauses
  pub learned : (a : Assignment) → keeps rules a ≡ true → all_hold a facts.learned ≡ true
  pub even : length rules.members ≡ length rules.limits
  pub ordered : are_ordered (rules.cnf.vars + 1) rules.members ≡ true

-- The clauses are as before, or one is added.
pub record IsAdded (old : List Clause) (clause : Clause) (new : List Clause) : Type 0 where
  pub holds : (a : Assignment) → all_hold a old ≡ true → is_true_clause a clause ≡ true → all_hold a new ≡ true
