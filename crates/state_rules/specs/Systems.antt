-- What sessions ask about. Their answers follow from a system, and from how many sessions may be open.
use Rattle.std.specs.Prelude.{ℕ, Bool, false, List, Option, None}
use Rattle.state_rules.specs.declared.extras.Extras.{Extras}
use Rattle.state_rules.specs.Cases.{Case}
use Rattle.state_rules.specs.Ranking.{least, diagnoses}

abbrev pub no_extras : Extras
no_extras = record { levels = None; least = false }

-- for each case the text of the graph of the consistent states, and that of the graph of the diagnoses; `None` leaves a text open
pub record Texts : Type 0 where
  pub dnnf : Option (Case → List ℕ)
  pub least : Option (Case → List ℕ)

abbrev pub open_texts : Texts
open_texts = record { dnnf = None; least = None }

-- the names of parts and wires, the cost of each part's failure, the health states that agree with a case, which extras are offered
-- (`levels`, `leastnnf`), whether its graphs are written, and their texts, if they are fixed
pub record System : Type 0 where
  pub parts : List (List ℕ)
  pub wires : List (List ℕ)
  pub costs : List ℕ
  pub consistent : Case → List (List Bool)
  pub extras : Extras
  pub graphs : Bool
  pub texts : Texts

-- the same system with these extras, or with these texts
abbrev pub with_extras : Extras → System → System
with_extras extras system = record system { extras = extras }

abbrev pub with_texts : Texts → System → System
with_texts texts system = record system { texts = texts }

-- the least cost of a state that agrees with a case, and the states of that cost
abbrev pub least_cost : System → Case → Option ℕ
least_cost system known = least system.costs (system.consistent known)

abbrev pub all_diagnoses : System → Case → List (List Bool)
all_diagnoses system known = diagnoses system.costs (system.consistent known)
