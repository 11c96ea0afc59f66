-- The health states that a graph allows under evidence.
use Rattle.std.specs.Prelude.{ℕ, ◌-◌, Bool, ◌&&◌, List, ◌++◌, length, sum_by, Option}
use Rattle.std.specs.List.{list_any}
use Rattle.state_rules.specs.Bits.{bit_in, same_bit, lists_of_bits}
use Rattle.state_rules.specs.Cases.{agrees}
use Rattle.state_rules.specs.Ranking.{Test, passing, least, diagnoses}
use Rattle.state_rules.specs.Graphs.{Graph, holds}
use Rattle.conditioner.specs.Evidence.{known}

-- whether a health state, with some bits of the other variables, passes a test and makes the root true
abbrev pub has_model : Graph → Test → ℕ → Test
has_model graph test parts health =
    list_any (λ others. test (health ++ others) && holds graph (health ++ others)) (lists_of_bits (graph.vars - parts))

-- whether bits of all variables agree with the evidence
abbrev pub fits_evidence : List ℕ → Test
fits_evidence evidence bits = agrees (known evidence) bits

-- the states of the parts that are models with some bits of the other variables
abbrev pub models : Graph → List ℕ → ℕ → List (List Bool)
models graph evidence parts = passing parts (has_model graph (fits_evidence evidence) parts)

-- those in which variable `var` can have the bit too
abbrev pub models_with : Graph → List ℕ → ℕ → ℕ → Bool → List (List Bool)
models_with graph evidence parts var bit =
    passing parts (has_model graph (λ bits. fits_evidence evidence bits && same_bit bit (bit_in bits (var - 1))) parts)

-- the cost of all parts together
abbrev pub total_cost : List ℕ → ℕ
total_cost costs = sum_by (λ c. c) costs

-- the least cost of a state that the evidence allows, and the states of that cost
abbrev pub least_under : Graph → List ℕ → List ℕ → Option ℕ
least_under graph evidence costs = least costs (models graph evidence (length costs))

abbrev pub diagnoses_under : Graph → List ℕ → List ℕ → List (List Bool)
diagnoses_under graph evidence costs = diagnoses costs (models graph evidence (length costs))

-- the least cost if variable `var` has the bit too
abbrev pub least_with : Graph → List ℕ → List ℕ → ℕ → Bool → Option ℕ
least_with graph evidence costs var bit = least costs (models_with graph evidence (length costs) var bit)
