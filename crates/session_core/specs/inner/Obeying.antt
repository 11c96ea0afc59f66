-- The effect of a request on the sessions.
use Rattle.std.specs.Prelude.{◌≡◌, ℕ, ◌<◌, Bool, List, [], ◌∷◌, length, map, Option, Some, Result, IfOk, codes, if◌then◌else◌}
use Rattle.std.specs.Fmt.{decimal}
use Rattle.text_rules.specs.Names.{Name}
use Rattle.state_rules.specs.Ranking.{cost}
use Rattle.script_lang.specs.declared.line.Noted.{Noted}
use Rattle.script_lang.specs.declared.line.Noted.TheVariants.{Wire, Part}
use Rattle.script_lang.specs.Script.{Request, Ask, Several, Levels as LevelsOf}
use Rattle.state_rules.specs.Systems.{System}
use Rattle.session_rules.specs.Items.{Item, line}
use Rattle.session_rules.specs.Replies.{Found, found, listing, faulty_names}
use Rattle.session_rules.specs.declared.refusal.Refusal.{Refusal}
use Rattle.session_rules.specs.declared.refusal.Refusal.TheVariants.{NoWire, NoPart}
use Rattle.session_rules.specs.Sessions.{Entry, Table, Step, with_entry}
use Rattle.session_rules.specs.Spelling.{Replies}
use Rattle.session_rules.specs.Carrying.{CarriesOut}
use Rattle.session_table.specs.Tables.{StandsAt}
use Rattle.session_core.specs.Services.{Shown, exact_moves, ChangesTable}
use Rattle.engines.specs.Answers.{is_found, listed_states, later_states}
use Rattle.session_core.specs.inner.Texts.{next_text}
use Rattle.engines.specs.declared.listed.Listed.{Listed}
use Rattle.engines.specs.declared.listed.Listed.TheVariants.{Diagnoses, Levels}
use Rattle.engines.specs.declared.listed.NextState.{NextState}
use Rattle.session_core.specs.declared.sessions.OpenSession.{OpenSession}

-- The moves of a request were made or broke off, and only the table changed.
pub record Obeys {T E : Type 0} (old new : Shown) (session : Name) (request : Request) (before after : Option (List ℕ)) (result : Result T E) : Type 0 where
  pub carried : CarriesOut old.table new.table (exact_moves old old.table (Ask session request)) before after result
  pub stays : ChangesTable old new

-- A session is at its place of the table, with some entry.
pub record IsOpen (table : Table) (session : OpenSession) : Type 0 where
  pub within : session.place < length table
  pub entry : Entry
  pub stands : StandsAt table session.place session.name.now entry

-- the refusal to note something of a wire, or a part, that does not exist
abbrev pub no_such : Noted → Refusal
no_such Wire = NoWire
no_such Part = NoPart

-- the request for `count` states of a listing
abbrev pub list_request : Listed → ℕ → Request
list_request Diagnoses count = Several count
list_request Levels count = LevelsOf count

abbrev pub state_line : System → Listed → Name → List Bool → Item
state_line system Diagnoses session state = line (session ∷ codes "diag" ∷ faulty_names system.parts state)
state_line system Levels session state =
    line (session ∷ codes "level" ∷ decimal (cost system.costs state) ∷ faulty_names system.parts state)

-- what comes after a point of a listing
abbrev pub found_by : System → Listed → Name → Entry → Option (List Bool) → Found
found_by system listed session entry point = found session (state_line system listed session) point
    (listed_states system listed entry.known) (later_states system listed entry.known point)

-- the session goes on after what was found
abbrev pub goes_on : Table → Name → Entry → Found → Step
goes_on table session entry f =
    record { table = with_entry session (record entry { point = f.point }) table; items = f.item ∷ [] }

-- the moves of a listing of `count`
abbrev pub found_moves : Shown → Listed → Name → Entry → ℕ → List Step
found_moves shown listed session entry count =
    map (goes_on shown.table session entry) (listing (found_by shown.system listed session entry) count entry.point)

abbrev pub the_found : System → Listed → Name → Entry → Found
the_found system listed session entry = found_by system listed session entry entry.point

-- the session goes on after what was found
abbrev pub found_entry : System → Listed → Name → Entry → Entry
found_entry system listed session entry = record entry { point = (the_found system listed session entry).point }

-- the point after what comes next and its state
abbrev pub point_at : Option (List Bool) → NextState → List Bool → Option (List Bool)
point_at point next state = if is_found next then Some state else point

abbrev pub found_as : Name → List Name → Option (List Bool) → NextState → List Bool → Found
found_as session parts point next state = record {
  item = line (next_text session parts next state);
  point = point_at point next state;
  more = is_found next;
}

-- What comes next was found, and the session's point moved there.
pub record PointMoves (system : System) (listed : Listed) (old new : Table) (place : ℕ) (session : Name) (entry : Entry) (next : NextState) (state : List Bool) : Type 0 where
  pub answer : the_found system listed session entry ≡ found_as session system.parts entry.point next state
  pub moved : new ≡ with_entry session (record entry { point = point_at entry.point next state }) old
  pub stands : StandsAt new place session (record entry { point = point_at entry.point next state })

-- the session moved on, and what was found was written, or begun
pub record MovesOn {E : Type 0} (old new : Shown) (listed : Listed) (place : ℕ) (session : Name) (entry : Entry) (before after : Option (List ℕ)) (result : Result Bool E) : Type 0 where
  pub reply : Replies before after result ((the_found old.system listed session entry).item ∷ [])
  pub more : IfOk result (λ more. more ≡ (the_found old.system listed session entry).more)
  pub moved : new ≡ record old { table = with_entry session (found_entry old.system listed session entry) old.table }
  pub stands : StandsAt new.table place session (found_entry old.system listed session entry)
