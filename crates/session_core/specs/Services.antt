-- What contracts see of a service.
use Rattle.std.specs.Prelude.{◌≡◌, ℕ, List, length, nat_le, Option}
use Rattle.state_rules.specs.Systems.{System, open_texts, with_texts}
use Rattle.text_rules.specs.Names.{Name}
use Rattle.script_lang.specs.Script.{Line, Request, Blank, Refused, Ask, line_of}
use Rattle.session_rules.specs.declared.refusal.Refusal.{Refusal}
use Rattle.session_rules.specs.Sessions.{Table, Move, Step, entry_of, outcome, declined, moves, replies}
use Rattle.session_rules.specs.Moves.{line_moves, script_moves}
use Rattle.session_rules.specs.Carrying.{Makes, BreaksOff}
use Rattle.session_rules.specs.Spelling.{Writes}
use Rattle.session_rules.specs.CaseSizes.{HasCasesOf}
use Rattle.engines.specs.Answers.{About}
use Rattle.engines.specs.Offered.{IsOffered}

-- the system of a service, with the texts of its graphs, how many sessions may be open, and the open ones
pub record Shown : Type 0 where
  pub system : System
  pub limit : ℕ
  pub table : Table

-- the same over what an engine shows: a value of a contract holds no functions, and a system does
pub record Held (E : Type 0) : Type 0 where
  pub engine : E
  pub limit : ℕ
  pub table : Table

abbrev pub shown_by : {E : Type 0} → (E → About) → Held E → Shown
shown_by about held = record { system = (about held.engine).system; limit = held.limit; table = held.table }

-- What holds of every service. It follows that what a service writes spells the replies of its system.
pub record IsSound (shown : Shown) : Type 0 where
  -- The system may be served: the texts of its graphs have their meaning.
  pub offered : IsOffered shown.system
  -- The case of each open session has a place for each wire and each part.
  pub cases : HasCasesOf shown.system shown.table

-- the same system, the texts of its graphs left open
abbrev pub open_system : System → System
open_system system = with_texts open_texts system

-- the moves of a line, from a table
abbrev pub exact_moves : Shown → Table → Line → List Step
exact_moves shown table line = moves shown.system shown.limit table line

abbrev pub moves_of : Shown → Table → List ℕ → List Step
moves_of shown table bytes = exact_moves shown table (line_of bytes)

-- the moves of a request
abbrev pub outcome_of : Shown → Name → Request → List Move
outcome_of shown session request =
    outcome shown.system session (nat_le shown.limit (length shown.table)) (entry_of session shown.table) request

-- A line is refused: it is not in the language, or its request is declined, for example if its session is not open or it names an unknown
-- part or wire. A blank line is not refused.
abbrev pub IsRefused : Shown → Line → Type 0
IsRefused shown Blank = ⊥
IsRefused shown (Refused refusal) = Unit {0}
IsRefused shown (Ask session request) = (refusal : Refusal) × (outcome_of shown session request ≡ declined session refusal)

-- nothing but the table changed
abbrev pub ChangesTable : Shown → Shown → Type 0
ChangesTable old new = new ≡ record old { table = new.table }

-- What a service writes for these lines, from this table, is one text of the answers of its system.
pub record SpellReplies (shown : Shown) (old : Table) (lines : List (List ℕ)) : Type 0 where
  -- If the moves of the lines were made, those over the system were, the text spells its replies, and cases still fit.
  pub made : (new : Table) (before after : Option (List ℕ)) → Makes old new (script_moves (moves_of shown) old lines) before after
      → Makes old new (script_moves (line_moves (open_system shown.system) shown.limit) old lines) before after
  pub replies : (new : Table) (before after : Option (List ℕ)) → Makes old new (script_moves (moves_of shown) old lines) before after
      → Writes before after (replies (open_system shown.system) shown.limit old lines)
  pub cases : (new : Table) (before after : Option (List ℕ)) → Makes old new (script_moves (moves_of shown) old lines) before after
      → HasCasesOf (open_system shown.system) new
  -- If they broke off, so did those over the system.
  pub broke : (new : Table) (before after : Option (List ℕ)) → BreaksOff new (script_moves (moves_of shown) old lines) before after
      → BreaksOff new (script_moves (line_moves (open_system shown.system) shown.limit) old lines) before after
