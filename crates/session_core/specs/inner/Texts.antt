-- The words of replies, as the code makes them.
use Rattle.std.specs.Prelude.{ℕ, Bool, List, [], ◌∷◌, Option, Some, None, codes}
use Rattle.std.specs.Fmt.{decimal}
use Rattle.std.specs.List.{flat_map}
use Rattle.text_rules.specs.Names.{Name}
use Rattle.state_rules.specs.declared.blame.Blame.{Blame}
use Rattle.state_rules.specs.declared.blame.Blame.TheVariants.{Always, Sometimes, Never, Inconsistent}
use Rattle.session_rules.specs.Replies.{faulty_names}
use Rattle.engines.specs.declared.listed.NextState.{NextState}
use Rattle.engines.specs.declared.listed.NextState.TheVariants as Next

-- names, each after a space
abbrev pub spaced_before : List Name → List ℕ
spaced_before names = flat_map (λ name. 32 ∷ name) names

-- the word of a verdict
abbrev pub blame_text : Blame → List ℕ
blame_text Always = codes "always"
blame_text Sometimes = codes "sometimes"
blame_text Never = codes "never"
blame_text Inconsistent = codes "inconsistent"

-- the words of the reply to `min`: the least cost and the names of the faulty parts, or that no state agrees
abbrev pub min_text : Name → List Name → Option ℕ → List Bool → List Name
min_text session parts None state = session ∷ codes "inconsistent" ∷ []
min_text session parts (Some fewest) state = session ∷ codes "min" ∷ decimal fewest ∷ faulty_names parts state

-- the words for what comes next of a listing
abbrev pub next_text : Name → List Name → NextState → List Bool → List Name
next_text session parts Next.Inconsistent state = session ∷ codes "inconsistent" ∷ []
next_text session parts Next.End state = session ∷ codes "end" ∷ []
next_text session parts (Next.Found None) state = session ∷ codes "diag" ∷ faulty_names parts state
next_text session parts (Next.Found (Some cost)) state = session ∷ codes "level" ∷ decimal cost ∷ faulty_names parts state
