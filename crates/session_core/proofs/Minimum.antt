-- The line of `min`.
use Rattle.std.proofs.Common.{◌≡◌, ◌≢◌, ℕ, Bool, List, [], ◌∷◌, Option, Some, None, sym, ◌∙◌, ap, codes, arith}
use Rattle.std.specs.Prelude.{decimal}
use Rattle.text_rules.specs.Names.{Name}
use Rattle.state_rules.specs.Ranking.{least, diagnoses}
use Rattle.state_rules.specs.Systems.{System}
use Rattle.state_rules.proofs.Diagnoses.{no_diagnosis, some_diagnosis}
use Rattle.session_rules.specs.Replies.{faulty_names, min_line}
use Rattle.engines.specs.Answers.{IsFirst}
use Rattle.session_core.specs.inner.Texts.{min_text}

by_first : (system : System) (session : Name) (n : ℕ) (ds : List (List Bool)) (state : List Bool) → ds ≢ [] → IsFirst state ds
    → session ∷ codes "min" ∷ decimal n ∷ faulty_names system.parts state ≡ min_line system session (Some n) ds
by_first system session n ds state some first = grind arith

-- The line has the least cost and the first diagnosis.
pub min_line-is : (system : System) (session : Name) (hs : List (List Bool)) (state : List Bool) (fewest : Option ℕ) → fewest ≡ least system.costs hs
    → IsFirst state (diagnoses system.costs hs)
    → min_text session system.parts fewest state ≡ min_line system session (least system.costs hs) (diagnoses system.costs hs)
min_line-is system session hs state None e first =
    sym (ap (λ ds. min_line system session (least system.costs hs) ds) (no_diagnosis system.costs hs (sym e)))
min_line-is system session hs state (Some n) e first =
    by_first system session n (diagnoses system.costs hs) state (some_diagnosis system.costs n hs (sym e)) first
    ∙ ap (λ o. min_line system session o (diagnoses system.costs hs)) e
