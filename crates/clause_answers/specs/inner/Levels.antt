-- States by rising cost: what is found step by step.
use Rattle.std.specs.Prelude.{◌≡◌, ℕ, ◌<◌, ◌≤◌, Bool, true, false, Option, Some, None, List}
use Rattle.state_rules.specs.Ranking.{cost}
use Rattle.diagnosis_lister.specs.inner.Fixing.{Has}
use Rattle.level_lister.specs.inner.Searching.{IsFirstLevel, is_later}
use Rattle.clause_answers.specs.Questions.{Question}
use Rattle.clause_answers.specs.inner.Listed.{Shows}

-- some state costs `c`, and no other that costs `from` or more costs less
pub record IsNextCost (q : Question) (from top c : ℕ) : Type 0 where
  pub low : from ≤ c
  pub high : c ≤ top
  pub some : Has (Shows q c c)
  pub bound : (h : List Bool) → Shows q from top h → c ≤ cost q.costs h

-- the least cost of the states that cost from `from` to `top`
abbrev pub NextCost : Question → ℕ → ℕ → Option ℕ → Type 0
NextCost q from top None = (h : List Bool) → Shows q from top h → ⊥
NextCost q from top (Some c) = IsNextCost q from top c

-- The state is the first that meets P, by cost and then by order, and costs `c`; or none meets P, and the state is as before.
abbrev pub FindsLevel : List ℕ → (List Bool → Type 0) → Option ℕ → List Bool → List Bool → Type 0
FindsLevel costs P None old new = (new ≡ old) × ((h : List Bool) → P h → ⊥)
FindsLevel costs P (Some c) old new = IsFirstLevel costs P new × (cost costs new ≡ c)

-- a state that costs at most `top` and comes after a point, if there is one
abbrev pub Later : Question → ℕ → Option (List Bool) → List Bool → Type 0
Later q top point h = Shows q 0 top h × (is_later q.costs point h ≡ true)

-- The state is the first that comes after a point, and costs the same; or all that come after it cost more, and the state is as before.
abbrev pub FindsSame : Question → ℕ → List Bool → Bool → List Bool → List Bool → Type 0
FindsSame q top point true old new = FindsLevel q.costs (Later q top (Some point)) (Some (cost q.costs point)) old new
FindsSame q top point false old new = (new ≡ old) × ((h : List Bool) → Later q top (Some point) h → cost q.costs point < cost q.costs h)
