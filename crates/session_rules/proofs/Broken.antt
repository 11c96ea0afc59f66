-- Moves that are made, and moves that break off.
use Rattle.std.proofs.Common.{◌≡◌, ℕ, List, [], ◌∷◌, ◌++◌, Option, Result, Ok, Err, refl, sym, subst, append_assoc, append-nil, arith}
use Rattle.state_rules.specs.Systems.{System}
use Rattle.std.proofs.lemmas.Grind.{flat_map-append}
use Rattle.session_rules.specs.Sessions.{Table, Step, said, left_by, replies}
use Rattle.session_rules.specs.Moves.{line_moves, script_moves}
use Rattle.session_rules.specs.Spelling.{Writes, WritesPart, Replies}
use Rattle.session_rules.specs.Carrying.{Makes, BreaksOff, CarriesOut}
use Rattle.session_rules.proofs.Spellings.{writes_more, writes_none}
use Rattle.session_rules.proofs.Begun.{HaveSpellings, have_after, part_more, part_after}

pub said-append : (ms ns : List Step) → said (ms ++ ns) ≡ said ms ++ said ns
said-append ms ns = flat_map-append (λ (move : Step). move.items) ms ns

pub left_by-append : (t : Table) (ms ns : List Step) → left_by t (ms ++ ns) ≡ left_by (left_by t ms) ns
left_by-append t [] ns = refl
left_by-append t (m ∷ ms) ns = left_by-append m.table ms ns

-- the moves of a script write its replies
pub said-replies : (system : System) (limit : ℕ) (table : Table) (lines : List (List ℕ)) → said (script_moves (line_moves system limit) table lines) ≡ replies system limit table lines
said-replies system limit table [] = refl
said-replies system limit table (l ∷ lines) = grind (arith, said-append, said-replies system limit (left_by table (line_moves system limit table l)) lines)

pub makes_none : (t : Table) (a : Option (List ℕ)) → Makes t t [] a a
makes_none t a = record { written = writes_none a; table = refl }

-- moves after moves
pub makes_more : {t u v : Table} {ms ns : List Step} {a b c : Option (List ℕ)} → Makes t u ms a b → Makes u v ns b c → Makes t v (ms ++ ns) a c
makes_more {t} {u} {v} {ms} {ns} {a} {b} {c} first second = grind (arith, said-append, writes_more, left_by-append)

-- moves that break off do so before further moves too
pub breaks_before : {t : Table} {ms : List Step} {a b : Option (List ℕ)} (ns : List Step) → BreaksOff t ms a b → BreaksOff t (ms ++ ns) a b
breaks_before ns broke = grind (arith, append_assoc)

-- they do so after moves that were made
pub breaks_after : {t u v : Table} {ms ns : List Step} {a b c : Option (List ℕ)} → Makes t u ms a b → BreaksOff v ns b c → BreaksOff v (ms ++ ns) a c
breaks_after {t} {u} {v} {ms} {ns} {a} {b} {c} first broke = grind (arith, append_assoc ms broke.made (broke.move ∷ broke.others), said-append ms broke.made, writes_more a b broke.middle (said ms) (said broke.made) first.written broke.written)

-- a line of one move was carried out
pub carries_one : {T E : Type 0} (s t : Table) (step : Step) (a b : Option (List ℕ)) (result : Result T E) → Replies a b result step.items → t ≡ step.table → CarriesOut s t (step ∷ []) a b result
carries_one s t step a b (Ok v) written table = record { written = subst (Writes a b) (sym (append-nil step.items)) written; table = table }
carries_one s t step a b (Err e) part table = record {
  made = [];
  move = step;
  others = [];
  split = refl;
  middle = a;
  written = writes_none a;
  begun = part;
  table = table;
}

pub script_moves-append : (one : Table → List ℕ → List Step) (t : Table) (ls ks : List (List ℕ))
    → script_moves one t (ls ++ ks) ≡ script_moves one t ls ++ script_moves one (left_by t (script_moves one t ls)) ks
script_moves-append one t [] ks = refl
script_moves-append one t (l ∷ ls) ks =
    let first = one t l in
    let rest = script_moves one (left_by t first) ls in
    grind (arith, script_moves-append one (left_by t first) ls ks, left_by-append, append_assoc)

-- If moves broke off, what was written begins a text that spells all that they write, if some text does.
pub broken_begins : (t : Table) (ms : List Step) (a b : Option (List ℕ)) → BreaksOff t ms a b → HaveSpellings (said ms) → WritesPart a b (said ms)
broken_begins t ms a b broke h = grind (arith, said-append broke.made (broke.move ∷ broke.others), have_after broke.move.items (said broke.others), have_after (said broke.made) (broke.move.items ++ said broke.others), part_after a broke.middle b (said broke.made) (broke.move.items ++ said broke.others) broke.written, part_more broke.middle b broke.move.items (said broke.others) broke.begun)

-- if a script broke off, what was written begins its replies
pub broken_replies : (system : System) (limit : ℕ) (old new : Table) (lines : List (List ℕ)) (a b : Option (List ℕ)) → BreaksOff new (script_moves (line_moves system limit) old lines) a b
    → HaveSpellings (replies system limit old lines) → WritesPart a b (replies system limit old lines)
broken_replies system limit old new lines a b broke h = grind (arith, said-replies system limit old lines, broken_begins new (script_moves (line_moves system limit) old lines) a b broke)
