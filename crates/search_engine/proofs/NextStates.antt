-- What comes next of a listing, from the answers of the search.
use Rattle.std.proofs.Common.{◌≡◌, ◌≢◌, ℕ, Bool, List, [], ◌∷◌, get_or, refl, sym, arith}
use Rattle.state_rules.specs.Ranking.{diagnoses}
use Rattle.state_rules.specs.Systems.{System}
use Rattle.state_rules.proofs.Diagnoses.{least-some, has_diagnosis}
use Rattle.diagnosis_lister.specs.Listing.{step_of}
use Rattle.level_lister.specs.Listing.{level_step}
use Rattle.engines.specs.declared.listed.Listed.TheVariants.{Diagnoses, Levels}
use Rattle.engines.specs.Answers.{next_of, IsFirst}
use Rattle.search_engine.specs.inner.Held.{of_step, of_level_step}

pub is_first : (state other : List Bool) (later : List (List Bool)) → state ≡ get_or later 0 other → IsFirst state later
is_first state other later e = grind arith

pub level_next : (system : System) (states later : List (List Bool)) → of_level_step (level_step system.costs states later) ≡ next_of system Levels states later
level_next system states later = grind arith

some_next : (system : System) (h : List Bool) (hs ds later : List (List Bool)) → ds ≢ [] → of_step (step_of (h ∷ hs) later) ≡ next_of system Diagnoses ds later
some_next system h hs ds later some = grind arith

pub diagnosis_next : (system : System) (costs : List ℕ) (hs later : List (List Bool)) → of_step (step_of hs later) ≡ next_of system Diagnoses (diagnoses costs hs) later
diagnosis_next system costs [] later = refl
diagnosis_next system costs (h ∷ hs) later =
    some_next system h hs (diagnoses costs (h ∷ hs)) later (has_diagnosis costs (h ∷ hs) (sym (least-some costs h hs)))
