-- What contracts see of the open sessions.
use Rattle.std.specs.Prelude.{◌≡◌, ℕ, Bool, length, Option, Some, None, set, slice_get}
use Rattle.text_rules.specs.Names.{Name}
use Rattle.state_rules.specs.Cases.{empty_case}
use Rattle.script_lang.specs.declared.line.Noted.{Noted}
use Rattle.script_lang.specs.declared.line.Noted.TheVariants.{Wire, Part}
use Rattle.session_rules.specs.Sessions.{Entry, Table, entry_of, with_entry}

-- the numbers of parts, wires and variables, how many sessions may be open, and the open ones
pub record Opened : Type 0 where
  pub parts : ℕ
  pub wires : ℕ
  pub vars : ℕ
  pub limit : ℕ
  pub table : Table

-- the entry of a session that opens
abbrev pub fresh_entry : Opened → Entry
fresh_entry opened = record { known = empty_case opened.wires opened.parts; point = None }

-- the entry once something is noted of the wire, or the part, at a place, or no longer; it has no point
abbrev pub with_noted : Entry → Noted → ℕ → Option Bool → Entry
with_noted entry Wire place bit = record { known = record entry.known { seen = set entry.known.seen place bit }; point = None }
with_noted entry Part place bit = record { known = record entry.known { held = set entry.known.held place bit }; point = None }

-- the case of a session has a place for each wire and each part
abbrev pub Fits : (parts wires : ℕ) → Entry → Type 0
Fits parts wires entry = (length entry.known.seen ≡ wires) × (length entry.known.held ≡ parts)

-- the number of parts, or of wires
abbrev pub count_of : (parts wires : ℕ) → Noted → ℕ
count_of parts wires Wire = wires
count_of parts wires Part = parts

-- the session is at this place of the table with this entry; to put it there again changes nothing
pub record StandsAt (table : Table) (place : ℕ) (session : Name) (entry : Entry) : Type 0 where
  pub at : slice_get table place ≡ Some (session, entry)
  pub found : entry_of session table ≡ Some entry
  pub kept : with_entry session entry table ≡ table
