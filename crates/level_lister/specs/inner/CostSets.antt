-- Sets of costs, and what the set of a node means.
use Rattle.std.specs.Prelude.{◌≡◌, ℕ, zero, suc, ◌+◌, ◌-◌, ◌*◌, ◌<◌, Bool, true, ◌&&◌, List, length, slice_index, nat_le, if◌then◌else◌}
use Rattle.state_rules.specs.Assignments.{Assignment}
use Rattle.node_costs.specs.Costs.{Weights, TestCost, Depends, SumOf, IsRow}
use Rattle.minimiser.specs.Costs.{known_at, part_cost}
use Rattle.part_sets.specs.Numbers.{has_number}

-- the word before the one at a place, or 0 before the first
abbrev pub word_before : List ℕ → ℕ → ℕ
word_before set zero = 0
word_before set (suc k) = slice_index set k

-- whether a number is greater by `more` than one of the set
abbrev pub has_shifted : List ℕ → ℕ → ℕ → Bool
has_shifted set more n = nat_le more n && has_number set (n - more)

-- `set` has the sums of numbers of `left` and numbers of `right` below `limit`
pub record AreSums (left right : List ℕ) (limit : ℕ) (set : List ℕ) : Type 0 where
  pub sound : (n : ℕ) → has_number set n ≡ true → SumOf (λ j. has_number left j ≡ true) (λ k. has_number right k ≡ true) n
  pub whole : (j k : ℕ) → has_number left j ≡ true → has_number right k ≡ true → k < limit → j + k < 32 * length set
      → has_number set (j + k) ≡ true

-- what the evidence says of the variables, and the cost of a faulty part
abbrev pub fault_weights : List ℕ → List ℕ → Weights
fault_weights evidence costs = record { known = known_at evidence; weight = λ v b. if b then 0 else part_cost costs v; parts = length costs }

-- The set has exactly the costs of `test` over the variables `some`, as far as it has room. The test depends on these alone.
pub record IsCostSet (evidence costs : List ℕ) (test : Assignment → Bool) (some : ℕ → Bool) (set : List ℕ) : Type 0 where
  pub row : IsRow (has_number set) (32 * length set) (TestCost (fault_weights evidence costs) some test)
  pub local : Depends some test
