-- What is asked about clauses over the health of parts, and the answers. A state is one bit for each part, as in `Ranking`.
use Rattle.std.specs.Prelude.{ℕ, ◌-◌, Bool, not, ◌&&◌, List, ◌++◌, map, length, Option}
use Rattle.std.specs.List.{list_any}
use Rattle.state_rules.specs.Assignments.{assignment}
use Rattle.state_rules.specs.Bits.{bit_in, same_bit, lists_of_bits}
use Rattle.state_rules.specs.Ranking.{Test, passing, least, diagnoses}
use Rattle.state_rules.specs.Levels.{levels, levels_rest}
use Rattle.clause_encoder.specs.Clauses.{ClauseList, all_hold}
use Rattle.conditioner.specs.Models.{fits_evidence}
use Rattle.state_rules.specs.declared.blame.Blame.{Blame}
use Rattle.state_rules.specs.Verdicts.{verdict}

-- Clauses, the cost of each part's failure, and what is known of each variable. The first variables say of the parts that they are ok.
pub record Question : Type 0 where
  pub cnf : ClauseList
  pub costs : List ℕ
  pub evidence : List ℕ

-- whether a health state, with some bits of the other variables, passes a test and makes all clauses true
abbrev pub has_model : ClauseList → Test → ℕ → Test
has_model cnf test parts health =
    list_any (λ others. test (health ++ others) && all_hold (assignment (health ++ others)) cnf.clauses) (lists_of_bits (cnf.vars - parts))

-- the states of the parts that are models with some bits of the other variables that agree with the evidence
abbrev pub models : Question → List (List Bool)
models q = passing (length q.costs) (has_model q.cnf (fits_evidence q.evidence) (length q.costs))

-- those in which variable `var` can have the bit too
abbrev pub models_with : Question → ℕ → Bool → List (List Bool)
models_with q var bit =
    passing (length q.costs) (has_model q.cnf (λ bits. fits_evidence q.evidence bits && same_bit bit (bit_in bits (var - 1))) (length q.costs))

-- the least cost of a state that the evidence allows, and the states of that cost
abbrev pub least_under : Question → Option ℕ
least_under q = least q.costs (models q)

abbrev pub diagnoses_under : Question → List (List Bool)
diagnoses_under q = diagnoses q.costs (models q)

-- the least cost if variable `var` has the bit too
abbrev pub least_with : Question → ℕ → Bool → Option ℕ
least_with q var bit = least q.costs (models_with q var bit)

-- the states that cost at most `top`, by rising cost, after a point
abbrev pub later_levels : Question → ℕ → Option (List Bool) → List (List Bool)
later_levels q top point = levels_rest q.costs (levels q.costs top (models q)) point

-- the verdict on a part, counted from 0
abbrev pub blame_of : Question → ℕ → Blame
blame_of q part = verdict (map (λ state. not (bit_in state part)) (diagnoses_under q))
