-- The answer of `next`, and the number of faulty parts.
use Rattle.std.specs.Prelude.{ℕ, Bool, not, List, [], ◌∷◌, count_by}
use Rattle.diagnosis_lister.specs.declared.listing.Step.{Step}
use Rattle.diagnosis_lister.specs.declared.listing.Step.TheVariants.{Found, End, Inconsistent}

-- the number of faulty parts
abbrev pub fault_count : List Bool → ℕ
fault_count state = count_by not state

-- the answer, from the states that are allowed and the diagnoses that come later
abbrev pub step_of : List (List Bool) → List (List Bool) → Step
step_of [] later = Inconsistent
step_of (m ∷ ms) [] = End
step_of (m ∷ ms) (d ∷ later) = Found
