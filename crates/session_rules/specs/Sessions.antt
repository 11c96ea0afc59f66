-- Sessions over a system, and the replies to the lines of a script.
use Rattle.std.specs.Prelude.{ℕ, Bool, not, List, [], ◌∷◌, ◌++◌, map, length, Option, Some, None, set, codes, nat_le, if◌then◌else◌}
use Rattle.std.specs.Ordering.{nat_cmp}
use Rattle.std.specs.Cmp.Lexicographic.{slice_cmp}
use Rattle.std.specs.List.{list_all, filter, flat_map}
use Rattle.std.specs.Option.{option_map_or}
use Rattle.std.specs.FinMap.{find, put}
use Rattle.text_rules.specs.Names.{Name, same_name, is_among}
use Rattle.state_rules.specs.Cases.{Case, empty_case}
use Rattle.state_rules.specs.Systems.{System}
use Rattle.device_model.specs.Devices.{place_of}
use Rattle.script_lang.specs.Script.{Line, Blank, Refused, Ask, Request, Start, Stop, Note, Tell, Next, Several, After, Dnnf, Level, Levels, LeastNnf, line_of}
use Rattle.script_lang.specs.declared.line.Noted.TheVariants.{Wire, Part}
use Rattle.script_lang.specs.Refusals as line_refusals
use Rattle.session_rules.specs.declared.refusal.Refusal.{Refusal}
use Rattle.session_rules.specs.declared.refusal.Refusal.TheVariants.{NoSession, OpenAlready, Full, NoWire, NoPart, NoLevels, NoLeast, NoGraph}
use Rattle.session_rules.specs.Refusals.{refusal_row, error_words}
use Rattle.session_rules.specs.Items.{Item, line}
use Rattle.session_rules.specs.Replies.{Found, next_of, level_of, listing, told, dnnf_item, least_item}

-- what a session knows, and the state after which its listings go on (none: from the first)
pub record Entry : Type 0 where
  pub known : Case
  pub point : Option (List Bool)

-- the open sessions, by name
abbrev pub Table : Type 0
Table = List (Name × Entry)

abbrev pub entry_of : Name → Table → Option Entry
entry_of session table = find (slice_cmp nat_cmp) session table

abbrev pub with_entry : Name → Entry → Table → Table
with_entry session entry table = put (slice_cmp nat_cmp) session entry table

abbrev pub without : Name → Table → Table
without session table = filter (λ e. not (same_name e.0 session)) table

-- what becomes of a session
pub data Change : Type 0 where
  Stays : Change
  Becomes : (entry : Entry) → Change
  Ends : Change

abbrev pub changed : Name → Change → Table → Table
changed session Stays table = table
changed session (Becomes entry) table = with_entry session entry table
changed session Ends table = without session table

-- one thing that is done: what becomes of the session, and what is written
pub record Move : Type 0 where
  pub change : Change
  pub items : List Item

-- One move: these items are written, and nothing changes.
abbrev pub tells : List Item → List Move
tells items = record { change = Stays; items = items } ∷ []

abbrev pub declined : Name → Refusal → List Move
declined session refusal = tells (line (session ∷ error_words (refusal_row refusal)) ∷ [])

-- One move: the session knows this case and is at this point, and a word is written.
abbrev pub becomes : Name → Case → Option (List Bool) → List ℕ → List Move
becomes session known point word =
    record { change = Becomes (record { known = known; point = point }); items = line (session ∷ word ∷ []) ∷ [] } ∷ []

-- At most `count` moves. Each writes what comes next, and moves the session's point there.
abbrev pub lists : Entry → (Option (List Bool) → Found) → ℕ → List Move
lists entry next count =
    map (λ f. record { change = Becomes (record entry { point = f.point }); items = f.item ∷ [] }) (listing next count entry.point)

-- the moves of a request to an open session
abbrev pub when_open : System → Name → Entry → Request → List Move
when_open system s entry Start = declined s OpenAlready
when_open system s entry Stop = record { change = Ends; items = line (s ∷ codes "closed" ∷ []) ∷ [] } ∷ []
when_open system s entry (Note Wire name bit) =
    option_map_or (λ place. becomes s (record entry.known { seen = set entry.known.seen place bit }) None (codes "ok"))
    (place_of name system.wires) (declined s NoWire)
when_open system s entry (Note Part name bit) =
    option_map_or (λ place. becomes s (record entry.known { held = set entry.known.held place bit }) None (codes "ok"))
    (place_of name system.parts) (declined s NoPart)
when_open system s entry (Tell question) = tells (map line (told system s entry.known question))
when_open system s entry Next = lists entry (next_of system s entry.known) 1
when_open system s entry (Several count) = lists entry (next_of system s entry.known) count
when_open system s entry (After names) =
    if list_all (is_among system.parts) names
    then becomes s entry.known (Some (map (λ part. not (is_among names part)) system.parts)) (codes "ok")
    else declined s NoPart
when_open system s entry Dnnf =
    if system.graphs then tells (line (s ∷ codes "dnnf" ∷ []) ∷ dnnf_item system entry.known ∷ []) else declined s NoGraph
when_open system s entry Level =
    option_map_or (λ top. lists entry (level_of system s top entry.known) 1) system.extras.levels (declined s NoLevels)
when_open system s entry (Levels count) =
    option_map_or (λ top. lists entry (level_of system s top entry.known) count) system.extras.levels (declined s NoLevels)
when_open system s entry LeastNnf =
    if system.extras.least then tells (line (s ∷ codes "leastnnf" ∷ []) ∷ least_item system entry.known ∷ []) else declined s NoLeast

-- The moves of a request. They depend only on the entry of its session, or, if that is not open, on whether there is room.
abbrev pub outcome : System → Name → Bool → Option Entry → Request → List Move
outcome system s full (Some entry) request = when_open system s entry request
outcome system s full None Start =
    if full then declined s Full else becomes s (empty_case (length system.wires) (length system.parts)) None (codes "open")
outcome system s full None request = declined s NoSession

-- a move that was made: the table after it, and what it wrote
pub record Step : Type 0 where
  pub table : Table
  pub items : List Item

-- the moves of a line, if at most `limit` sessions may be open; each changes the table that the line found
abbrev pub moves : System → ℕ → Table → Line → List Step
moves system limit table Blank = []
moves system limit table (Refused refusal) =
    record { table = table; items = line (error_words (line_refusals.refusal_row refusal)) ∷ [] } ∷ []
moves system limit table (Ask session request) =
    map (λ move. record { table = changed session move.change table; items = move.items })
    (outcome system session (nat_le limit (length table)) (entry_of session table) request)

-- what moves write, one after the other, and the table that they leave
abbrev pub said : List Step → List Item
said moves = flat_map (λ move. move.items) moves

abbrev pub left_by : Table → List Step → Table
left_by table [] = table
left_by table (move ∷ moves) = left_by move.table moves

-- the replies to the lines of a script, each from the table that the one before it leaves
abbrev pub replies : System → ℕ → Table → List (List ℕ) → List Item
replies system limit table [] = []
replies system limit table (bytes ∷ lines) =
    let now = moves system limit table (line_of bytes) in said now ++ replies system limit (left_by table now) lines
