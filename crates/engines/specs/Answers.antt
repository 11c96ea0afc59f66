-- The answers about a case of a system.
use Rattle.std.specs.Prelude.{◌≡◌, ℕ, Bool, true, false, not, List, [], ◌∷◌, map, Option, Some, None, is_some}
use Rattle.state_rules.specs.Bits.{bit_in}
use Rattle.state_rules.specs.Cases.{Case}
use Rattle.state_rules.specs.Levels.{levels, levels_rest}
use Rattle.state_rules.specs.Ranking.{cost, rest}
use Rattle.state_rules.specs.Systems.{System, least_cost, all_diagnoses}
use Rattle.session_rules.specs.Replies.{least_at, seen_at}
use Rattle.state_rules.specs.declared.blame.Blame.{Blame}
use Rattle.state_rules.specs.Verdicts.{verdict}
use Rattle.engines.specs.declared.listed.Listed.{Listed}
use Rattle.engines.specs.declared.listed.Listed.TheVariants.{Diagnoses, Levels}
use Rattle.engines.specs.declared.listed.NextState.{NextState}
use Rattle.engines.specs.declared.listed.NextState.TheVariants.{Found, End, Inconsistent}

-- what an engine answers about: a system, and the case in question
pub record About : Type 0 where
  pub system : System
  pub known : Case

-- the least cost of the case, and its diagnoses
abbrev pub least_of : About → Option ℕ
least_of about = least_cost about.system about.known

abbrev pub diagnoses_of : About → List (List Bool)
diagnoses_of about = all_diagnoses about.system about.known

-- the greatest cost of listed states
abbrev pub top_of : Option ℕ → ℕ
top_of None = 0
top_of (Some top) = top

-- whether there is a listing
abbrev pub is_listed : System → Listed → Bool
is_listed system Diagnoses = true
is_listed system Levels = is_some system.extras.levels

-- the states of a listing, and those of it after a point
abbrev pub listed_states : System → Listed → Case → List (List Bool)
listed_states system Diagnoses known = all_diagnoses system known
listed_states system Levels known = system.consistent known

abbrev pub later_states : System → Listed → Case → Option (List Bool) → List (List Bool)
later_states system Diagnoses known point = rest (all_diagnoses system known) point
later_states system Levels known point =
    levels_rest system.costs (levels system.costs (top_of system.extras.levels) (system.consistent known)) point

-- the cost that is shown with a state
abbrev pub shown_cost : System → Listed → List Bool → Option ℕ
shown_cost system Diagnoses state = None
shown_cost system Levels state = Some (cost system.costs state)

-- what comes next, by the states of a listing and the later ones
abbrev pub next_of : System → Listed → List (List Bool) → List (List Bool) → NextState
next_of system listed [] later = Inconsistent
next_of system listed (state ∷ states) [] = End
next_of system listed (state ∷ states) (next ∷ later) = Found (shown_cost system listed next)

abbrev pub next_after : System → Listed → Case → Option (List Bool) → NextState
next_after system listed known point =
    next_of system listed (listed_states system listed known) (later_states system listed known point)

-- the state is the first of these, if there is one
abbrev pub IsFirst : List Bool → List (List Bool) → Type 0
IsFirst state [] = Unit {0}
IsFirst state (first ∷ later) = state ≡ first

abbrev pub is_found : NextState → Bool
is_found (Found cost) = true
is_found End = false
is_found Inconsistent = false

-- the least cost if a wire is seen with this bit too, unless it is seen with the other
abbrev pub least_seen : About → ℕ → Bool → Option ℕ
least_seen about wire bit = least_at about.system about.known wire bit (seen_at about.known wire)

-- whether a part is faulty in all diagnoses, in some, or in none
abbrev pub blame_of : About → ℕ → Blame
blame_of about part = verdict (map (λ state. not (bit_in state part)) (diagnoses_of about))
