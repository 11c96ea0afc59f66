-- A session among others: its answers are those that it would have alone.
use Rattle.std.specs.Prelude.{◌≡◌, ℕ, Bool, true, false, List, [], ◌∷◌, ◌++◌, map, length, nat_le, codes, if◌then◌else◌}
use Rattle.text_rules.specs.Names.{Name, same_name}
use Rattle.state_rules.specs.Systems.{System}
use Rattle.script_lang.specs.Script.{Line, Ask, Start, Stop, line_of}
use Rattle.session_rules.specs.Items.{Item, line}
use Rattle.session_rules.specs.Sessions.{Table, entry_of, moves, said, left_by}

-- a line and its answer
pub record Answer : Type 0 where
  pub bytes : List ℕ
  pub items : List Item

abbrev pub lines_of : List Answer → List (List ℕ)
lines_of answers = map (λ (answer : Answer). answer.bytes) answers

-- lines, each with its answer
abbrev pub dialogue : System → ℕ → Table → List (List ℕ) → List Answer
dialogue system limit table [] = []
dialogue system limit table (bytes ∷ lines) =
    let now = moves system limit table (line_of bytes) in
    record { bytes = bytes; items = said now } ∷ dialogue system limit (left_by table now) lines

-- whether a line asks something of this session
abbrev pub names_session : Name → Line → Bool
names_session session (Ask other request) = same_name other session
names_session session line = false

-- whether a line asks to close this session
abbrev pub closes_session : Name → Line → Bool
closes_session session (Ask other Stop) = same_name other session
closes_session session line = false

-- the answers to lines that name the session, up to the first that closes it
abbrev pub own_answers : Name → List Answer → List Answer
own_answers session [] = []
own_answers session (answer ∷ answers) =
    let asked = line_of answer.bytes in
    let later = if closes_session session asked then [] else own_answers session answers in
    if names_session session asked then answer ∷ later else own_answers session answers

-- the line opens the session, and its answer says so
pub record Opens (session : Name) (answer : Answer) : Type 0 where
  pub asked : line_of answer.bytes ≡ Ask session Start
  pub said : answer.items ≡ line (session ∷ codes "open" ∷ []) ∷ []

-- Wherever a session opens among these lines, its own lines from there to its end have the answers that they have alone.
abbrev pub AreAnsweredAlone : System → ℕ → Table → List (List ℕ) → Type 0
AreAnsweredAlone system limit table lines =
    (session : Name) (before later : List Answer) (opening : Answer)
    → dialogue system limit table lines ≡ before ++ opening ∷ later → Opens session opening
    → let own = own_answers session (opening ∷ later) in own ≡ dialogue system 1 [] (lines_of own)

-- Two tables look alike to a line if its session has the same entry in both and, if the line opens it, both have room or neither has.
pub record LooksSame (limit : ℕ) (line : Line) (one other : Table) : Type 0 where
  pub entries : (session : Name) → names_session session line ≡ true → entry_of session one ≡ entry_of session other
  pub room : (session : Name) → line ≡ Ask session Start → nat_le limit (length one) ≡ nat_le limit (length other)

-- The answer to a line, and what becomes of its session, depend on no more than that. The line changes no other session.
pub record IsItsOwn (system : System) (limit : ℕ) (line : Line) : Type 0 where
  pub answer : (one other : Table) → LooksSame limit line one other
      → said (moves system limit one line) ≡ said (moves system limit other line)
  pub named : (one other : Table) → LooksSame limit line one other → (session : Name) → names_session session line ≡ true
      → entry_of session (left_by one (moves system limit one line)) ≡ entry_of session (left_by other (moves system limit other line))
  pub others : (table : Table) (session : Name) → names_session session line ≡ false
      → entry_of session (left_by table (moves system limit table line)) ≡ entry_of session table
