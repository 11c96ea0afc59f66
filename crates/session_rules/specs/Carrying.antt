-- Moves made one after the other, and moves that break off.
use Rattle.std.specs.Prelude.{◌≡◌, ℕ, List, ◌∷◌, ◌++◌, Option, Result, MatchResult}
use Rattle.session_rules.specs.Sessions.{Table, Step, said, left_by}
use Rattle.session_rules.specs.Spelling.{Writes, WritesPart}

-- the moves were made, their replies were written, and `new` is the table that they leave
pub record Makes (old new : Table) (moves : List Step) (before after : Option (List ℕ)) : Type 0 where
  pub written : Writes before after (said moves)
  pub table : new ≡ left_by old moves

-- Some of the moves were made and their replies written. One more was made, and nothing, a part or all of its reply was written. None after
-- it was made.
pub record BreaksOff (new : Table) (moves : List Step) (before after : Option (List ℕ)) : Type 0 where
  pub made : List Step
  pub move : Step
  pub others : List Step
  pub split : moves ≡ made ++ move ∷ others
  pub middle : Option (List ℕ)
  pub written : Writes before middle (said made)
  pub begun : WritesPart middle after move.items
  pub table : new ≡ move.table

-- the moves were made, or broke off
abbrev pub CarriesOut : {T E : Type 0}
    → Table → Table → List Step → Option (List ℕ) → Option (List ℕ) → Result T E → Type 0
CarriesOut old new moves before after result =
    MatchResult result (λ _. Makes old new moves before after) (λ _. BreaksOff new moves before after)
