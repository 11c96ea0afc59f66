-- A line depends on the entry of its session, and leaves every other as it is.
use Rattle.std.proofs.Common.{◌≡◌, ℕ, true, false, List, map, length, refl, ap, ◌∙◌, Some, None, Option, arith}
use Rattle.std.specs.Prelude.{nat_le}
use Rattle.std.specs.List.{flat_map}
use Rattle.std.proofs.lemmas.List.Folds.{flat_map-map}
use Rattle.text_rules.specs.Names.{Name, same_name}
use Rattle.text_rules.proofs.NameLemmas.{equal_if_same, same_if_equal}
use Rattle.state_rules.specs.Systems.{System}
use Rattle.script_lang.specs.Script.{Line, Blank, Refused, Ask, Request}
use Rattle.session_rules.specs.Sessions.{Table, Entry, Change, Stays, Becomes, Ends, Move, Step, changed, entry_of, outcome, moves, said, left_by}
use Rattle.session_rules.specs.Alone.{names_session, LooksSame, IsItsOwn}
use Rattle.session_rules.proofs.KeptCases.{entry_of-with, entry_of-without, last_change, step_from, left_by-last}

-- what a change leaves of a session's entry
abbrev pub after_change : Change → Option Entry → Option Entry
after_change Stays entry = entry
after_change (Becomes new) entry = Some new
after_change Ends entry = None

abbrev pub after : List Move → Option Entry → Option Entry
after ms entry = after_change (last_change Stays ms) entry

pub same_as_itself : (s : Name) → same_name s s ≡ true
same_as_itself s = same_if_equal s s refl

apart_back : (r s : Name) → same_name s r ≡ false → same_name r s ≡ false
apart_back r s e = grind (arith, same_if_equal, equal_if_same)

own_change : (s : Name) (change : Change) (table : Table) → entry_of s (changed s change table) ≡ after_change change (entry_of s table)
own_change s change table = grind (arith, entry_of-with, same_as_itself, entry_of-without)

-- a session's own moves change its entry
pub own_moves : (s : Name) (ms : List Move) (table : Table) → entry_of s (left_by table (map (step_from table s) ms)) ≡ after ms (entry_of s table)
own_moves s ms table = ap (entry_of s) (left_by-last s table Stays ms) ∙ own_change s (last_change Stays ms) table

other_change : (r s : Name) (change : Change) (table : Table) → same_name r s ≡ false → entry_of r (changed s change table) ≡ entry_of r table
other_change r s change table e = grind (arith, entry_of-with, entry_of-without)

other_moves : (r s : Name) (ms : List Move) (table : Table) → same_name r s ≡ false → entry_of r (left_by table (map (step_from table s) ms)) ≡ entry_of r table
other_moves r s ms table e = ap (entry_of r) (left_by-last s table Stays ms) ∙ other_change r s (last_change Stays ms) table e

-- what moves say does not depend on the table
pub moves-said : (s : Name) (ms : List Move) (table : Table) → said (map (step_from table s) ms) ≡ flat_map (λ (move : Move). move.items) ms
moves-said s ms table = flat_map-map (λ (move : Step). move.items) (step_from table s) ms

module _ (system : System) where
  module _ (limit : ℕ) where
    -- the moves of a request
    abbrev asked : Table → Name → Request → List Move
    asked table s request = outcome system s (nat_le limit (length table)) (entry_of s table) request

    asked-same : (s : Name) (request : Request) (one other : Table) → LooksSame limit (Ask s request) one other → asked one s request ≡ asked other s request
    asked-same s request one other looks = grind (arith, same_as_itself)

    answer-same : (line : Line) (one other : Table) → LooksSame limit line one other → said (moves system limit one line) ≡ said (moves system limit other line)
    answer-same line one other looks = grind (arith, asked-same, moves-said)

    named-same : (line : Line) (one other : Table) → LooksSame limit line one other → (s : Name) → names_session s line ≡ true
        → entry_of s (left_by one (moves system limit one line)) ≡ entry_of s (left_by other (moves system limit other line))
    named-same Blank one other looks s named = looks.entries s named
    named-same (Refused refusal) one other looks s named = looks.entries s named
    named-same (Ask r request) one other looks s named = grind (arith, equal_if_same r s named, own_moves, asked-same r request one other looks)

    -- the lines of others leave an entry as it is
    pub others-stay : (line : Line) (table : Table) (s : Name) → names_session s line ≡ false → entry_of s (left_by table (moves system limit table line)) ≡ entry_of s table
    others-stay line table s apart = grind (arith, other_moves, apart_back)

    -- each line depends on its session alone, and changes no other
    pub is_its_own : (line : Line) → IsItsOwn system limit line
    is_its_own line = grind (arith, answer-same, named-same, others-stay)
