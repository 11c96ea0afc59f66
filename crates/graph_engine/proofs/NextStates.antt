-- What comes next of a listing, from the answers of the listers.
use Rattle.std.proofs.Common.{◌≡◌, ◌≢◌, ℕ, Bool, List, [], ◌∷◌, get_or, None, refl, sym, arith}
use Rattle.state_rules.specs.Ranking.{diagnoses}
use Rattle.diagnosis_lister.specs.Listing.{step_of}
use Rattle.level_lister.specs.Listing.{level_step}
use Rattle.state_rules.specs.Systems.{System}
use Rattle.engines.specs.declared.listed.Listed.TheVariants.{Diagnoses, Levels}
use Rattle.engines.specs.declared.listed.NextState.TheVariants.{Found}
use Rattle.engines.specs.Answers.{next_of, IsFirst}
use Rattle.graph_engine.specs.inner.Held.{of_step, of_level_step}
use Rattle.state_rules.proofs.Diagnoses.{least-some, has_diagnosis}

pub is_first : (state other : List Bool) (later : List (List Bool)) → state ≡ get_or later 0 other → IsFirst state later
is_first state other later e = grind arith

-- ---- from a lister's answer

pub level_next : (subject : System) (states later : List (List Bool)) → of_level_step (level_step subject.costs states later) ≡ next_of subject Levels states later
level_next subject states later = grind arith

pub first_next : (subject : System) (ds : List (List Bool)) → ds ≢ [] → Found None ≡ next_of subject Diagnoses ds ds
first_next subject ds some = grind arith

some_next : (subject : System) (h : List Bool) (hs ds later : List (List Bool)) → ds ≢ [] → of_step (step_of (h ∷ hs) later) ≡ next_of subject Diagnoses ds later
some_next subject h hs ds later some = grind arith

pub diagnosis_next : (subject : System) (costs : List ℕ) (hs later : List (List Bool)) → of_step (step_of hs later) ≡ next_of subject Diagnoses (diagnoses costs hs) later
diagnosis_next subject costs [] later = refl
diagnosis_next subject costs (h ∷ hs) later =
    some_next subject h hs (diagnoses costs (h ∷ hs)) later (has_diagnosis costs (h ∷ hs) (sym (least-some costs h hs)))
