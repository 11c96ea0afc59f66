-- Bits of the variables of clauses, and assignments that keep the rules of a search.
use Rattle.std.specs.Prelude.{◌≡◌, ℕ, ◌+◌, ◌<◌, ◌≤◌, Bool, true, List, [], ◌∷◌, length, take, ℤ}
use Rattle.state_rules.specs.Assignments.{Assignment, assignment}
use Rattle.state_rules.specs.Ranking.{cost}
use Rattle.clause_search.specs.declared.weighted.Weighted.{Weighted}
use Rattle.clause_search.specs.Searching.{Rules, all_true, false_weight, keeps, priced}
use Rattle.conditioner.specs.Models.{total_cost}
use Rattle.minimiser.specs.declared.pass.TheConstants.{TOTAL_LIMIT}
use Rattle.clause_answers.specs.declared.weights.Weights.{Weights}
use Rattle.clause_answers.specs.Questions.{Question}
use Rattle.clause_answers.specs.inner.Known.{Knows}
use Rattle.clause_answers.specs.inner.Asking.{Fits}
use Rattle.clause_answers.specs.inner.Weighing.{Weighs}

-- what is asked about the clauses of a search
abbrev pub asked : Rules → List ℕ → List ℕ → Question
asked rules costs evidence = record { cnf = rules.cnf; costs = costs; evidence = evidence }

-- An assignment that keeps the rules, and is as the bits are.
pub record Carried (rules : Rules) (costs evidence : List ℕ) (literals : List ℤ) (bits : List Bool) : Type 0 where
  pub to : Assignment
  pub kept : keeps rules to ≡ true
  pub knows : Knows to evidence (length evidence)
  pub same : all_true to literals ≡ all_true (assignment bits) literals
  pub costs_ : false_weight to (priced 1 costs) ≡ cost costs (take (length costs) bits)
  pub alike : (v : ℕ) → 1 ≤ v → v ≤ rules.cnf.vars → to v ≡ assignment bits v

-- Bits of the variables of the clauses, from those of all variables.
pub record Cut (rules : Rules) (costs evidence : List ℕ) (literals : List ℤ) (model bits : List Bool) : Type 0 where
  pub fits : Fits (asked rules costs evidence) bits
  pub true_ : all_true (assignment bits) literals ≡ true
  pub costs_ : cost costs (take (length costs) bits) ≡ cost costs (take (length costs) model)
  pub priced_ : false_weight (assignment model) (priced 1 costs) ≡ cost costs (take (length costs) bits)

-- The first two definitions are the costs of the parts.
abbrev pub first_two : List ℕ → List (List Weighted)
first_two costs = priced 1 costs ∷ priced 1 costs ∷ []

-- What holds of every oracle.
pub record IsOracle (rules : Rules) (costs evidence : List ℕ) (weights : Weights) (bits : List Bool) (space : ℕ) : Type 0 where
  pub parts : length costs ≤ rules.cnf.vars
  pub total : total_cost costs < TOTAL_LIMIT
  pub known : length evidence ≡ rules.cnf.vars
  pub long : length bits ≡ rules.cnf.vars
  pub first : take 2 rules.members ≡ first_two costs
  pub weighs : Weighs rules costs evidence [] weights
  pub room : rules.cnf.vars + 2 + rules.cnf.vars ≤ space
