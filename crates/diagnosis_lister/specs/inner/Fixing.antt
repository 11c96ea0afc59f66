-- What holds while parts are fixed one after the other, to find the first state or the next.
use Rattle.std.specs.Prelude.{◌≡◌, ◌≢◌, ℕ, ◌+◌, ◌<◌, ◌≤◌, Bool, true, false, not, List, map, take, length, ◌⊎◌, slice_index, ◌==◌}
use Rattle.state_rules.specs.Bits.{bit_in, AlikeBelow}
use Rattle.state_rules.specs.Cases.{agrees_at}
use Rattle.state_rules.specs.Ranking.{is_before}
use Rattle.conditioner.specs.Evidence.{known_of, word_of}

-- a state that meets P, and is before all others that do
pub record IsFirst (P : List Bool → Type 0) (h : List Bool) : Type 0 where
  pub meets : P h
  pub before : (k : List Bool) → P k → (k ≡ h) ⊎ (is_before h k ≡ true)

-- some state meets P
pub record Has (P : List Bool → Type 0) : Type 0 where
  pub state : List Bool
  pub is : P state

-- the state that the evidence of the parts says, if none is open
abbrev pub fixed_bits : ℕ → List ℕ → List Bool
fixed_bits parts evidence = map (λ w. not (w == 2)) (take parts evidence)

-- a state of `parts` parts agrees with their evidence
pub record Agrees (parts : ℕ) (evidence : List ℕ) (h : List Bool) : Type 0 where
  pub long : length h ≡ parts
  pub agrees : (i : ℕ) → i < parts → agrees_at (known_of (slice_index evidence i)) (bit_in h i) ≡ true

-- no state that meets P has the point's first `n` bits and comes after the point
abbrev pub NoneAfter : (List Bool → Type 0) → List Bool → ℕ → Type 0
NoneAfter P point n = (h : List Bool) → P h → AlikeBelow n h point → is_before point h ≡ true → ⊥

-- The evidence says the point's bits before the last of the first `n` parts, and after them what it said. No state that meets P has the
-- point's first `n` bits and comes after the point.
pub record Follows (P : List Bool → Type 0) (old : List ℕ) (point : List Bool) (new : List ℕ) (n : ℕ) : Type 0 where
  pub front : (k : ℕ) → k + 1 < n → slice_index new k ≡ word_of (bit_in point k)
  pub kept : (k : ℕ) → slice_index old k ≢ 0 → slice_index new k ≡ slice_index old k
  pub behind : (k : ℕ) → n ≤ k → slice_index new k ≡ slice_index old k
  pub none : NoneAfter P point n

-- The evidence says the point's bits before `part`, and ok for `part`, which the point has faulty. It allows some state, and no state
-- with more of the point's bits comes after the point.
pub record Leaves (P : List ℕ → List Bool → Type 0) (old : List ℕ) (point : List Bool) (new : List ℕ) (part : ℕ) : Type 0 where
  pub within : part < length point
  pub faulty : bit_in point part ≡ false
  pub ok : slice_index new part ≡ 1
  pub follows : Follows (P old) old point new (part + 1)
  pub some : Has (P new)
