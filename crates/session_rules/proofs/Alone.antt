-- A session among others is answered as it is alone.
use Rattle.std.proofs.Common.{◌≡◌, ℕ, Bool, true, false, List, [], ◌∷◌, ◌++◌, map, length, refl, ap, ap₂, sym, ◌∙◌, subst, Some, None, Option, arith, length-append}
use Rattle.std.specs.Prelude.{is_some, codes, nat_le, if◌then◌else◌}
use Rattle.std.specs.Fmt.{decimal}
use Rattle.std.specs.List.{flat_map}
use Rattle.text_rules.specs.Names.{Name}
use Rattle.text_rules.specs.Tokens.{spaced}
use Rattle.text_rules.proofs.NameLemmas.{equal_if_same}
use Rattle.state_rules.specs.Cases.{Case, empty_case}
use Rattle.state_rules.specs.Systems.{System}
use Rattle.script_lang.specs.Script.{Line, Blank, Refused, Ask, Request, Start, line_of}
use Rattle.session_rules.specs.declared.refusal.Refusal.{Refusal}
use Rattle.session_rules.specs.declared.refusal.Refusal.TheVariants.{OpenAlready, Full}
use Rattle.session_rules.specs.Refusals.{refusal_row, error_words}
use Rattle.session_rules.specs.Replies.{Found}
use Rattle.session_rules.specs.Items.{line}
use Rattle.session_rules.specs.Sessions.{Table, Entry, Change, Becomes, Move, moves, said, left_by, entry_of, outcome, when_open, becomes, declined}
use Rattle.session_rules.specs.Moves.{line_moves}
use Rattle.session_rules.specs.Alone.{Answer, lines_of, dialogue, names_session, closes_session, own_answers, Opens, AreAnsweredAlone}
use Rattle.session_rules.proofs.Locality.{after_change, after, same_as_itself, own_moves, moves-said, others-stay}
use Rattle.session_rules.proofs.KeptCases.{last_change}

-- ---- an open session stays open until it is closed

lists-open : (change : Change) (entry : Entry) (found : List Found) → is_some (after_change change (Some entry)) ≡ true
    → is_some (after_change (last_change change (map (λ (f : Found). record { change = Becomes (record entry { point = f.point }); items = f.item ∷ [] }) found)) (Some entry)) ≡ true
lists-open change entry [] is = is
lists-open change entry (f ∷ found) is = lists-open (Becomes (record entry { point = f.point })) entry found refl

when_open-open : (system : System) (s : Name) (entry : Entry) (request : Request) → closes_session s (Ask s request) ≡ false → is_some (after (when_open system s entry request) (Some entry)) ≡ true
when_open-open system s entry request goes = grind (arith, same_as_itself, lists-open)

entry_there : (o : Option Entry) → is_some o ≡ true → (entry : Entry) × (o ≡ Some entry)
entry_there o some = grind arith

-- ---- a refusal does not open

-- a refusal is longer than the answer to an `open`
refused_apart : (s tail : List ℕ) → length (s ++ (32 ∷ (codes "error" ++ (32 ∷ tail)))) ≡ length (s ++ (32 ∷ (codes "open" ++ 10 ∷ []))) → ⊥
refused_apart s tail e = grind (arith, length-append)

declined_apart : (s : Name) (refusal : Refusal) → flat_map (λ (move : Move). move.items) (declined s refusal) ≡ line (s ∷ codes "open" ∷ []) ∷ [] → ⊥
declined_apart s refusal e =
    let same : spaced (s ∷ error_words (refusal_row refusal)) ≡ spaced (s ∷ codes "open" ∷ []) = cc in
    refused_apart s (decimal (refusal_row refusal).0 ++ (32 ∷ ((refusal_row refusal).1 ++ 10 ∷ []))) (ap length same)

-- ---- the answers of one session

module _ (system : System) (limit : ℕ) (s : Name) where
  -- the session is open, with the same entry in both tables
  abbrev Both : Table → Table → Type 0
  Both t u = (entry : Entry) × (entry_of s t ≡ Some entry) × (entry_of s u ≡ Some entry)

  -- an open session has the same answer from both tables
  answered_same : (request : Request) (t u : Table) → Both t u → said (moves system limit t (Ask s request)) ≡ said (moves system 1 u (Ask s request))
  answered_same request t u (entry, a, b) = grind (arith, moves-said)

  -- its entry afterwards is the same
  left : (m : ℕ) (request : Request) (t : Table) (entry : Entry) → entry_of s t ≡ Some entry → entry_of s (left_by t (moves system m t (Ask s request))) ≡ after (when_open system s entry request) (Some entry)
  left m request t entry is = grind (arith, own_moves)

  still : (request : Request) (t u : Table) → Both t u → closes_session s (Ask s request) ≡ false → Both (left_by t (moves system limit t (Ask s request))) (left_by u (moves system 1 u (Ask s request)))
  still request t u (entry, a, b) goes =
      let new = entry_there (after (when_open system s entry request) (Some entry)) (when_open-open system s entry request goes) in
      (new.0, left limit request t entry a ∙ new.1, left 1 request u entry b ∙ new.1)

  the_request : (l : Line) → names_session s l ≡ true → (request : Request) × (l ≡ Ask s request)
  the_request Blank e = absurd (let never : ⊥ = cc in never)
  the_request (Refused refusal) e = absurd (let never : ⊥ = cc in never)
  the_request (Ask r request) e = (request, ap (λ n. Ask n request) (equal_if_same r s e))

  abbrev among : Table → List (List ℕ) → List Answer
  among = dialogue system limit

  -- these are the answers that the same lines have alone, from table `u`
  abbrev AsAlone : List Answer → Table → Type 0
  AsAlone answers u = answers ≡ dialogue system 1 u (lines_of answers)

  abbrev first_answer : Table → List ℕ → Answer
  first_answer t bytes = record { bytes = bytes; items = said (line_moves system limit t bytes) }

  -- the answers from a line on that names the session, by whether it closes it
  abbrev own_from : Bool → Table → List ℕ → List (List ℕ) → List Answer
  own_from closes t bytes lines =
      first_answer t bytes ∷ (if closes then [] else own_answers s (among (left_by t (line_moves system limit t bytes)) lines))

  -- what holds for all tables with an entry of the session holds after its own line
  own-alone : (bytes : List ℕ) (lines : List (List ℕ)) (t u : Table) → Both t u → (request : Request) → line_of bytes ≡ Ask s request
      → ((v w : Table) → Both v w → AsAlone (own_answers s (among v lines)) w) → (closes : Bool) → closes_session s (line_of bytes) ≡ closes
      → AsAlone (own_from closes t bytes lines) u
  own-alone bytes lines t u both request asked more closes is =
      let items : said (line_moves system limit t bytes) ≡ said (line_moves system 1 u bytes) =
      grind (arith, answered_same) in
      ap₂ (λ now rest. record { bytes = bytes; items = now } ∷ rest) items (by closes is)
    where
      by : (closes : Bool) → closes_session s (line_of bytes) ≡ closes
          → AsAlone (if closes then [] else own_answers s (among (left_by t (line_moves system limit t bytes)) lines)) (left_by u (line_moves system 1 u bytes))
      by true is = refl
      by false is =
          more (left_by t (line_moves system limit t bytes)) (left_by u (line_moves system 1 u bytes))
          (subst (λ l. Both (left_by t (moves system limit t l)) (left_by u (moves system 1 u l))) (sym asked)
          (still request t u both (sym (ap (closes_session s) asked) ∙ is)))

  -- an open session has the answers that it has from any table with its entry
  open-alone : (lines : List (List ℕ)) (t u : Table) → Both t u → AsAlone (own_answers s (among t lines)) u
  open-alone [] t u both = refl
  open-alone (bytes ∷ lines) t u both = by (open-alone lines) (names_session s (line_of bytes)) refl
    where
      by : ((v w : Table) → Both v w → AsAlone (own_answers s (among v lines)) w) → (named : Bool) → names_session s (line_of bytes) ≡ named
          → AsAlone (if named then own_from (closes_session s (line_of bytes)) t bytes lines else own_answers s (among (left_by t (line_moves system limit t bytes)) lines)) u
      by more true named = let asked = the_request (line_of bytes) named in own-alone bytes lines t u both asked.0 asked.1 more (closes_session s (line_of bytes)) refl
      by more false apart = grind (arith, others-stay)

  abbrev new_case : Case
  new_case = empty_case (length system.wires) (length system.parts)

  -- a session that opens was not open, and there was room
  opened : (full : Bool) (entry : Option Entry) → flat_map (λ (move : Move). move.items) (outcome system s full entry Start) ≡ line (s ∷ codes "open" ∷ []) ∷ []
      → outcome system s full entry Start ≡ becomes s new_case None (codes "open")
  opened full (Some entry) e = absurd (declined_apart s OpenAlready e)
  opened true None e = absurd (declined_apart s Full e)
  opened false None e = refl

  -- from the line that opens it on, a session has the answers that its lines have alone, whatever others do
  opening-alone : (bytes : List ℕ) (lines : List (List ℕ)) (t : Table) → Opens s (first_answer t bytes) → AsAlone (own_answers s (among t (bytes ∷ lines))) []
  opening-alone bytes lines t opens =
      let asked = opens.asked in
      let first = outcome system s (nat_le limit (length t)) (entry_of s t) Start in
      let free : first ≡ becomes s new_case None (codes "open") =
      grind (arith, opened) in
      let named : names_session s (line_of bytes) ≡ true = ap (names_session s) asked ∙ same_as_itself s in
      let goes : closes_session s (line_of bytes) ≡ false = ap (closes_session s) asked in
      let items : said (line_moves system limit t bytes) ≡ said (line_moves system 1 [] bytes) = opens.said ∙ sym (ap (λ l. said (moves system 1 [] l)) asked) in
      let new_among : entry_of s (left_by t (line_moves system limit t bytes)) ≡ Some (record { known = new_case; point = None }) =
      grind (arith, own_moves) in
      let new_alone : entry_of s (left_by [] (line_moves system 1 [] bytes)) ≡ Some (record { known = new_case; point = None }) =
      ap (λ l. entry_of s (left_by [] (moves system 1 [] l))) asked ∙ own_moves s (outcome system s false None Start) [] in
      grind (arith, open-alone)

  -- the answers from one on are those from some table
  from_answer : (table : Table) (lines : List (List ℕ)) (before later : List Answer) (opening : Answer) → among table lines ≡ before ++ opening ∷ later
      → (t : Table) × (bytes : List ℕ) × (rest : List (List ℕ)) × (opening ∷ later ≡ among t (bytes ∷ rest))
  from_answer table [] [] later opening e = absurd (let never : ⊥ = cc in never)
  from_answer table [] (b ∷ before) later opening e = absurd (let never : ⊥ = cc in never)
  from_answer table (bytes ∷ lines) [] later opening e = (table, bytes, lines, sym e)
  from_answer table (bytes ∷ lines) (b ∷ before) later opening e = grind (arith, from_answer (left_by table (line_moves system limit table bytes)) lines before later opening)

-- Wherever a session opens, its own lines from there to its end have the answers that they have alone.
pub answered_alone : (system : System) (limit : ℕ) (table : Table) (lines : List (List ℕ)) → AreAnsweredAlone system limit table lines
answered_alone system limit table lines s before later opening split opens = grind (arith, from_answer, opening-alone)
