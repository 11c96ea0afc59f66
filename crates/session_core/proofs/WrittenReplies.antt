-- What a service writes is one text of its system's answers: moves that were made, or broke off, are moves over the system too.
use Rattle.std.proofs.Common.{◌≡◌, ℕ, List, [], ◌∷◌, ◌++◌, map, length, Option, Some, refl, ap, sym, ◌∙◌, subst, append_assoc, arith}
use Rattle.std.proofs.lemmas.Bool.Decides.{nat_tests}
use Rattle.std.specs.Prelude.{nat_le}
use Rattle.text_rules.specs.Names.{Name}
use Rattle.state_rules.specs.Systems.{System}
use Rattle.script_lang.specs.Script.{Line, Ask, Request, Dnnf, LeastNnf, line_of}
use Rattle.session_rules.specs.Items.{Item, Plain}
use Rattle.session_rules.specs.Spelling.{Spelled, Spells, Writes}
use Rattle.session_rules.specs.Sessions.{Table, Entry, Step, entry_of, outcome, moves, said, left_by}
use Rattle.session_rules.specs.Moves.{line_moves, script_moves}
use Rattle.session_rules.specs.Carrying.{Makes, BreaksOff}
use Rattle.engines.specs.Offered.{HasGoodTexts}
use Rattle.session_rules.specs.CaseSizes.{IsCaseOf, HasCasesOf}
use Rattle.session_rules.proofs.Spellings.{spells_more}
use Rattle.session_rules.proofs.Broken.{left_by-append, said-replies}
use Rattle.session_rules.proofs.KeptCases.{step_from, moves-keep}
use Rattle.session_core.specs.Services.{Shown, SpellReplies, open_system, moves_of}

-- A move leads to the same table as another, and a text that spells its items spells the other's.
pub record IsExact (exact move : Step) : Type 0 where
  pub table : exact.table ≡ move.table
  pub spells : (text : List ℕ) → Spells exact.items text → Spells move.items text

-- each of some moves does so for those of others
abbrev pub AreExact : List Step → List Step → Type 0
AreExact [] [] = Unit {0}
AreExact [] (m ∷ ms) = ⊥
AreExact (e ∷ es) [] = ⊥
AreExact (e ∷ es) (m ∷ ms) = IsExact e m × AreExact es ms

are_same : (ms : List Step) → AreExact ms ms
are_same [] = tt
are_same (m ∷ ms) = (record { table = refl; spells = λ text is. is }, are_same ms)

are_more : (es ms fs ns : List Step) → AreExact es ms → AreExact fs ns → AreExact (es ++ fs) (ms ++ ns)
are_more [] ms fs ns h k = grind arith
are_more (e ∷ es) [] fs ns h k = absurd h
are_more (e ∷ es) (m ∷ ms) fs ns h k = (h.0, are_more es ms fs ns h.1 k)

same_left : (t : Table) (es ms : List Step) → AreExact es ms → left_by t es ≡ left_by t ms
same_left t [] ms h = grind arith
same_left t (e ∷ es) [] h = absurd h
same_left t (e ∷ es) (m ∷ ms) h = ap (λ u. left_by u es) h.0.table ∙ same_left m.table es ms h.1

-- a text of `xs` and `ys` is a text of `xs` and one of `ys`
pub parted : (xs ys : List Item) (text : List ℕ) → Spells (xs ++ ys) text → (front : List ℕ) × (rest : List ℕ) × (text ≡ front ++ rest) × Spells xs front × Spells ys rest
parted [] ys text is = ([], text, refl, refl, is)
parted (x ∷ xs) ys text (front, rest, all, one, more) =
    let later = parted xs ys rest more in grind (arith, append_assoc front later.0 later.1)

pub same_said : (es ms : List Step) → AreExact es ms → (text : List ℕ) → Spells (said es) text → Spells (said ms) text
same_said [] ms h text is = grind arith
same_said (e ∷ es) [] h text is = absurd h
same_said (e ∷ es) (m ∷ ms) h text is = grind (arith, parted, spells_more, same_said es ms h.1)

makes_same : (old new : Table) (es ms : List Step) (a b : Option (List ℕ)) → AreExact es ms → Makes old new es a b → Makes old new ms a b
makes_same old new es ms a b h made = grind (arith, same_said, same_left)

-- moves split into the first ones, the next one, and the others
record Splits (made others : List Step) (move : Step) (ms : List Step) : Type 0 where
  first : List Step
  next : Step
  later : List Step
  all : ms ≡ first ++ next ∷ later
  exact : AreExact made first × IsExact move next

splits : (made others : List Step) (move : Step) (ms : List Step) → AreExact (made ++ move ∷ others) ms → Splits made others move ms
splits [] others move [] h = absurd h
splits [] others move (m ∷ ms) h = record { first = []; next = m; later = ms; all = refl; exact = (tt, h.0) }
splits (e ∷ made) others move [] h = absurd h
splits (e ∷ made) others move (m ∷ ms) h =
    let more = splits made others move ms h.1 in
    record { first = m ∷ more.first; next = more.next; later = more.later; all = ap (λ xs. m ∷ xs) more.all; exact = ((h.0, more.exact.0), more.exact.1) }

breaks_same : (new : Table) (es ms : List Step) (a b : Option (List ℕ)) → AreExact es ms → BreaksOff new es a b → BreaksOff new ms a b
breaks_same new es ms a b h broke = grind (arith, splits, same_said)

-- ---- over a system whose graphs have texts

module _ (shown : Shown) (good : HasGoodTexts shown.system) where
  abbrev system : System
  system = open_system shown.system

  abbrev served : System
  served = shown.system

  -- a graph by its text, after a line, in place of the item that it spells
  told : (table : Table) (l item : Item) (text : List ℕ) → Spelled item text
      → IsExact (record { table = table; items = l ∷ Plain text ∷ [] }) (record { table = table; items = l ∷ item ∷ [] })
  told table l item text is = grind arith

  module _ (table : Table) (s : Name) (h : (e : Entry) → entry_of s table ≡ Some e → IsCaseOf system e.known) where
    abbrev answer : System → Request → Option Entry → List Step
    answer over request entry = map (step_from table s) (outcome over s (nat_le shown.limit (length table)) entry request)

    dnnf_exact : (entry : Option Entry) → entry_of s table ≡ entry → AreExact (answer served Dnnf entry) (answer system Dnnf entry)
    dnnf_exact entry there = grind (arith, nat_tests, good.dnnf)

    least_exact : (entry : Option Entry) → entry_of s table ≡ entry → AreExact (answer served LeastNnf entry) (answer system LeastNnf entry)
    least_exact entry there = grind (arith, nat_tests, good.least)

  line_exact : (table : Table) (l : Line) → HasCasesOf system table → AreExact (moves served shown.limit table l) (moves system shown.limit table l)
  line_exact table (Ask s Dnnf) h = dnnf_exact table s (h s) (entry_of s table) refl
  line_exact table (Ask s LeastNnf) h = least_exact table s (h s) (entry_of s table) refl
  line_exact table (Ask s request) h = grind (arith, are_same)
  line_exact table l h = are_same (moves system shown.limit table l)

  cases_kept : (table : Table) (bytes : List ℕ) → HasCasesOf system table → HasCasesOf system (left_by table (line_moves system shown.limit table bytes))
  cases_kept table bytes h = moves-keep system shown.limit table (line_of bytes) h

  pub script_exact : (table : Table) (lines : List (List ℕ)) → HasCasesOf system table → AreExact (script_moves (moves_of shown) table lines) (script_moves (line_moves system shown.limit) table lines)
  script_exact table [] h = tt
  script_exact table (l ∷ lines) h =
      let one = line_moves system shown.limit in
      let first = line_exact table (line_of l) h in
      grind (arith, are_more, script_exact (left_by table (one table l)) lines (cases_kept table l h))

  -- if the moves of a script were made, those over the system were
  pub makes_over : (old new : Table) (lines : List (List ℕ)) (a b : Option (List ℕ)) → HasCasesOf (open_system shown.system) old
      → Makes old new (script_moves (moves_of shown) old lines) a b → Makes old new (script_moves (line_moves (open_system shown.system) shown.limit) old lines) a b
  makes_over old new lines a b h = makes_same old new _ _ a b (script_exact old lines h)

  -- if they broke off, so did those over the system
  pub breaks_over : (old new : Table) (lines : List (List ℕ)) (a b : Option (List ℕ)) → HasCasesOf (open_system shown.system) old
      → BreaksOff new (script_moves (moves_of shown) old lines) a b → BreaksOff new (script_moves (line_moves (open_system shown.system) shown.limit) old lines) a b
  breaks_over old new lines a b h = breaks_same new _ _ a b (script_exact old lines h)

  cases_after : (table : Table) (lines : List (List ℕ)) → HasCasesOf system table → HasCasesOf system (left_by table (script_moves (line_moves system shown.limit) table lines))
  cases_after table [] h = h
  cases_after table (l ∷ lines) h =
      let one = line_moves system shown.limit in
      subst (HasCasesOf system) (sym (left_by-append table (one table l) (script_moves one (left_by table (one table l)) lines)))
      (cases_after (left_by table (one table l)) lines (cases_kept table l h))

  -- so what is written spells the replies
  pub spell_replies : (table : Table) (lines : List (List ℕ)) → HasCasesOf (open_system shown.system) table → SpellReplies shown table lines
  spell_replies table lines h = record {
    made = λ new a b made. makes_over table new lines a b h made;
    replies = λ new a b made. subst (Writes a b) (said-replies system shown.limit table lines) (makes_over table new lines a b h made).written;
    cases = λ new a b made. subst (HasCasesOf system) (sym (makes_over table new lines a b h made).table) (cases_after table lines h);
    broke = λ new a b broke. breaks_over table new lines a b h broke;
  }
