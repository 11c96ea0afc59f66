-- What holds while parts are fixed one after the other, to find a state of one cost.
use Rattle.std.specs.Prelude.{◌≡◌, ◌≢◌, ℕ, ◌<◌, ◌≤◌, Bool, true, List, length, All, ◌⊎◌, Option, Some, None, MatchOption, slice_index}
use Rattle.state_rules.specs.Ranking.{cost}
use Rattle.state_rules.specs.Graphs.{Graph}
use Rattle.state_rules.specs.Levels.{is_level_before}
use Rattle.conditioner.specs.Models.{has_model, fits_evidence}
use Rattle.diagnosis_lister.specs.inner.Fixing.{Has, fixed_bits}
use Rattle.level_lister.specs.Listing.{Kept}
use Rattle.level_lister.specs.inner.Skips.{IsEnough}

-- a state of the parts with cost `c` that the graph allows under the evidence
pub record OfCost (graph : Graph) (evidence costs : List ℕ) (c : ℕ) (h : List Bool) : Type 0 where
  pub long : length h ≡ length costs
  pub model : has_model graph (fits_evidence evidence) (length costs) h ≡ true
  pub cost_is : cost costs h ≡ c

-- some state has cost `c`
abbrev pub HasCost : Graph → List ℕ → List ℕ → ℕ → Type 0
HasCost graph evidence costs c = Has (OfCost graph evidence costs c)

-- The evidence has a word for each variable, and the graph without the skipped nodes is enough under it.
pub record CanAsk (graph : Graph) (skips evidence : List ℕ) (kept : Kept) : Type 0 where
  pub long : length evidence ≡ graph.vars
  pub small : All (λ w. w < 3) evidence
  pub enough : IsEnough graph skips evidence kept.costs kept.top

-- `saved` holds the evidence on the parts
pub record AreSaved (parts : ℕ) (evidence saved : List ℕ) : Type 0 where
  pub long : length saved ≡ parts
  pub same : (k : ℕ) → k < parts → slice_index saved k ≡ slice_index evidence k

-- the parts before `from` are fixed, and some state of the listed cost `c` is left
pub record IsBegun (graph : Graph) (evidence : List ℕ) (kept : Kept) (c from : ℕ) : Type 0 where
  pub listed : c ≤ kept.top
  pub within : from ≤ length kept.costs
  pub front : (k : ℕ) → k < from → slice_index evidence k ≢ 0
  pub some : HasCost graph evidence kept.costs c

-- a state that the graph allows under the evidence, with a cost between `from` and `top`
pub record IsListed (graph : Graph) (evidence costs : List ℕ) (from top : ℕ) (h : List Bool) : Type 0 where
  pub long : length h ≡ length costs
  pub model : has_model graph (fits_evidence evidence) (length costs) h ≡ true
  pub low : from ≤ cost costs h
  pub high : cost costs h ≤ top

-- a state that meets P and is before all others that do, by cost and then by order
pub record IsFirstLevel (costs : List ℕ) (P : List Bool → Type 0) (h : List Bool) : Type 0 where
  pub meets : P h
  pub before : (k : List Bool) → P k → (k ≡ h) ⊎ (is_level_before costs h k ≡ true)

-- The evidence changes on parts alone. The parts are fixed as in the first state that meets P, by cost and then by order, which costs `c`.
pub record Fixes (old costs : List ℕ) (P : List Bool → Type 0) (new : List ℕ) (c : ℕ) : Type 0 where
  pub others : (k : ℕ) → length costs ≤ k → slice_index new k ≡ slice_index old k
  pub first : IsFirstLevel costs P (fixed_bits (length costs) new)
  pub cost_is : cost costs (fixed_bits (length costs) new) ≡ c

-- The first state that meets P is found, or there is none and the evidence is as it was.
abbrev pub Finds : List ℕ → List ℕ → (List Bool → Type 0) → List ℕ → Option ℕ → Type 0
Finds old costs P new result =
    MatchOption result ((new ≡ old) × ((h : List Bool) → P h → ⊥)) (λ c. Fixes old costs P new c)

-- the same for listed states that cost at least `from`
abbrev pub FindsFirst : Graph → List ℕ → Kept → ℕ → List ℕ → Option ℕ → Type 0
FindsFirst graph old kept from new result = Finds old kept.costs (IsListed graph old kept.costs from kept.top) new result

-- whether a state comes after a point
abbrev pub is_later : List ℕ → Option (List Bool) → List Bool → Bool
is_later costs None h = true
is_later costs (Some point) h = is_level_before costs point h

-- the same for listed states after a point
abbrev pub FindsNext : Graph → List ℕ → Kept → Option (List Bool) → List ℕ → Option ℕ → Type 0
FindsNext graph old kept point new result =
    Finds old kept.costs (λ h. IsListed graph old kept.costs 0 kept.top h × (is_later kept.costs point h ≡ true)) new result
