-- Cases that fit a system.
use Rattle.std.specs.Prelude.{◌≡◌, length, Some}
use Rattle.text_rules.specs.Names.{Name}
use Rattle.state_rules.specs.Cases.{Case}
use Rattle.state_rules.specs.Systems.{System}
use Rattle.session_rules.specs.Sessions.{Entry, Table, entry_of}

-- The case has a place for each wire and each part of the system.
abbrev pub IsCaseOf : System → Case → Type 0
IsCaseOf system known = (length known.seen ≡ length system.wires) × (length known.held ≡ length system.parts)

-- The case of each open session has a place for each wire and each part of the system.
abbrev pub HasCasesOf : System → Table → Type 0
HasCasesOf system table =
    (session : Name) (entry : Entry) → entry_of session table ≡ Some entry → IsCaseOf system entry.known
