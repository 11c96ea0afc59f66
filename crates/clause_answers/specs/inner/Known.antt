-- What is known of variables, and literals that say so.
use Rattle.std.specs.Prelude.{◌≡◌, ℕ, ◌+◌, ◌<◌, ◌≤◌, ◌^◌, true, List, length, ℤ, slice_index, All}
use Rattle.state_rules.specs.Assignments.{Assignment}
use Rattle.state_rules.specs.Cases.{agrees_at}
use Rattle.conditioner.specs.Evidence.{known_of}
use Rattle.clause_search.specs.Searching.{all_true, are_within}

-- an assignment does not contradict what is known of the first `n` variables
abbrev pub Knows : Assignment → List ℕ → ℕ → Type 0
Knows a evidence n = (i : ℕ) → i < n → agrees_at (known_of (slice_index evidence i)) (a (i + 1)) ≡ true

-- The literals are all true exactly if an assignment does not contradict what is known of the first `n` variables.
pub record IsRead (evidence : List ℕ) (n : ℕ) (literals : List ℤ) : Type 0 where
  pub only : (a : Assignment) → all_true a literals ≡ true → Knows a evidence n
  pub enough : (a : Assignment) → Knows a evidence n → all_true a literals ≡ true
  pub few : length literals ≤ n
  pub within : are_within n literals ≡ true

-- of the first `n` variables after `before` others, those with a weight are true
abbrev pub AreTrue : Assignment → ℕ → List ℕ → ℕ → Type 0
AreTrue a before weights n = (i : ℕ) → i < n → 0 < slice_index weights i → a (before + i + 1) ≡ true

-- There is a word for each variable, and there are literals that say the same. There is room for one for each variable.
pub record IsEvidence (evidence : List ℕ) (literals : List ℤ) (space : ℕ) : Type 0 where
  pub words : All (λ w. w < 3) evidence
  pub small : length evidence < 2 ^ 30
  pub read : IsRead evidence (length evidence) literals
  pub room : length evidence ≤ space
