-- States in a range of costs, found one part after the other.
use Rattle.std.specs.Prelude.{◌≡◌, ℕ, ◌+◌, ◌<◌, ◌≤◌, Bool, true, false, Option, Some, None, List, map, take, length, ℤ, pos, slice_index_or}
use Rattle.state_rules.specs.Bits.{bit_in}
use Rattle.state_rules.specs.Ranking.{is_before}
use Rattle.diagnosis_lister.specs.inner.Fixing.{IsFirst}
use Rattle.clause_encoder.specs.Clauses.{is_positive, var_of}
use Rattle.clause_answers.specs.Questions.{Question}
use Rattle.clause_answers.specs.inner.Asking.{Fits, cost_of}

-- bits that fit, and cost from `low` to `high`
pub record Meets (q : Question) (low high : ℕ) (bits : List Bool) : Type 0 where
  pub fits : Fits q bits
  pub low_is : low ≤ cost_of q bits
  pub high_is : cost_of q bits ≤ high

-- a state with which such bits begin
pub record Shows (q : Question) (low high : ℕ) (h : List Bool) : Type 0 where
  pub bits : List Bool
  pub meets : Meets q low high bits
  pub begins : take (length q.costs) bits ≡ h

-- the bits that literals say
abbrev pub signs : List ℤ → List Bool
signs literals = map is_positive literals

-- the first `n` literals have the variables 1, 2 and so on
abbrev pub AreOrdered : List ℤ → ℕ → Type 0
AreOrdered literals n = (i : ℕ) → i < n → var_of (slice_index_or literals i (pos 0)) ≡ i + 1

-- the parts whose bit is 1 are ok in all bits in the range
abbrev pub AreOk : Question → ℕ → ℕ → List Bool → Type 0
AreOk q low high oks = (part : ℕ) → bit_in oks part ≡ true → (b : List Bool) → Meets q low high b → bit_in b part ≡ true

-- whether a state comes after a point, if there is one
abbrev pub is_after : Option (List Bool) → List Bool → Bool
is_after None h = true
is_after (Some point) h = is_before point h

-- The state is the first one of a cost after a point, or there is none and the state is as before.
abbrev pub FindsNext : Question → ℕ → Option (List Bool) → Bool → List Bool → List Bool → Type 0
FindsNext q c point true old new = IsFirst (λ h. Shows q c c h × (is_after point h ≡ true)) new
FindsNext q c point false old new = (new ≡ old) × ((h : List Bool) → Shows q c c h → is_after point h ≡ true → ⊥)
