-- What a service shows of what it holds, and its changes.
use Rattle.std.proofs.Common.{◌≡◌, ◌∙◌, ◌∷◌, ◌++◌, [], ◌<◌, ℕ, List, Option, Some, Result, length, take, drop, refl, ap, sym, subst, arith}
use Rattle.std.proofs.Math.Seq.{take-append_seam}
use Rattle.std.proofs.lemmas.List.Quantifiers.{position-Some}
use Rattle.text_rules.specs.Names.{Name, same_name}
use Rattle.text_rules.specs.Tokens.{spaced}
use Rattle.state_rules.specs.Cases.{Case}
use Rattle.diag_edge.specs.Edge.{Puts}
use Rattle.device_model.specs.Devices.{place_of}
use Rattle.script_lang.specs.Script.{Request}
use Rattle.session_rules.specs.CaseEvidence.{case_of_evidence, IsEvidence}
use Rattle.state_rules.specs.Systems.{System}
use Rattle.session_rules.specs.Items.{line}
use Rattle.session_rules.specs.declared.refusal.Refusal.{Refusal}
use Rattle.session_rules.specs.Refusals.{refusal_row, error_words}
use Rattle.session_rules.specs.Sessions.{Table, Change, Move, changed, declined, when_open}
use Rattle.session_rules.specs.Spelling.{Replies}
use Rattle.session_rules.proofs.Spellings.{replies_one}
use Rattle.session_table.specs.Tables.{Opened}
use Rattle.session_core.specs.Services.{Shown}
use Rattle.session_core.specs.declared.sessions.OpenSession.{OpenSession}
use Rattle.engines.specs.Offered.{IsEvidenceOf, case_in}
use Rattle.session_core.specs.inner.Holding.{HoldsTogether, shown_of}
use Rattle.session_core.specs.inner.Obeying.{Obeys, IsOpen}
use Rattle.session_core.proofs.OneMove.{obeys_one, asked_open}

-- sessions with another table
abbrev pub opened_with : Opened → Table → Opened
opened_with opened table = record opened { table = table }

pub place-within : (name : Name) (names : List Name) (place : ℕ) → Some place ≡ place_of name names → place < length names
place-within name names place e = (position-Some (same_name name) names place [] (sym e)).0

-- the parts of a service fit together with another table too
pub holds_more : (system : System) (old new : Opened) (table : Table) → HoldsTogether system old → new ≡ opened_with old table → HoldsTogether system new
holds_more system old new table h e = grind arith

-- ---- requests to an open session

module _ (system : System) (opened : Opened) (old : Shown) (view : shown_of system opened ≡ old) (session : OpenSession) (is : IsOpen old.table session) where
  pub there : IsOpen opened.table session
  there = subst (λ (v : Shown). IsOpen v.table session) (sym view) is

  -- a request of one move
  pub open_one : {T E : Type 0} (request : Request) (move : Move) (after : System) (new : Opened) (a b : Option (List ℕ)) (result : Result T E)
      → when_open system session.name.now there.entry request ≡ move ∷ [] → after ≡ system
      → new ≡ opened_with opened (changed session.name.now move.change opened.table) → Replies a b result move.items → Obeys old (shown_of after new) session.name.now request a b result
  open_one request move after new a b result one same becomes reply =
      let shown : Shown = shown_of system opened in
      subst (λ (v : Shown). Obeys v (shown_of after new) session.name.now request a b result) view
      (obeys_one shown (shown_of after new) session.name.now request move a b result
      (asked_open shown session.name.now request there.entry there.stands.found ∙ one)
      (λ i. shown_of (same i) (becomes i)) reply)

  -- it answers with a word
  pub open_word : {T E : Type 0} (request : Request) (change : Change) (word : List ℕ) (after : System) (new : Opened) (a b : Option (List ℕ)) (result : Result T E)
      → when_open system session.name.now there.entry request ≡ record { change = change; items = line (session.name.now ∷ word ∷ []) ∷ [] } ∷ [] → after ≡ system
      → new ≡ opened_with opened (changed session.name.now change opened.table) → Puts a b result (spaced (session.name.now ∷ word ∷ []))
      → Obeys old (shown_of after new) session.name.now request a b result
  open_word request change word after new a b result one same becomes put =
      open_one request _ after new a b result one same becomes (replies_one a b result (line (session.name.now ∷ word ∷ [])) _ refl put)

  -- it is refused
  pub open_refused : {T E : Type 0} (request : Request) (refusal : Refusal) (after : System) (a b : Option (List ℕ)) (result : Result T E)
      → when_open system session.name.now there.entry request ≡ declined session.name.now refusal → after ≡ system
      → Puts a b result (spaced (session.name.now ∷ error_words (refusal_row refusal))) → Obeys old (shown_of after opened) session.name.now request a b result
  open_refused request refusal after a b result one same put =
      open_one request _ after opened a b result one same refl (replies_one a b result (line (session.name.now ∷ error_words (refusal_row refusal))) _ refl put)

-- a list that is lent whole and written back
pub written_back : {A : Type 0} (n : ℕ) (new old : List A) → n ≡ length new → take n (new ++ drop (length new) old) ≡ new
written_back {A} n new old e = ap (λ (k : ℕ). take k (new ++ drop (length new) old)) e ∙ take-append_seam new (drop (length new) old)

-- ---- what a desk takes up

module _ (system : System) (opened : Opened) (h : HoldsTogether system opened) (words : List ℕ) where
  -- the words of a session are those of a case of the system
  pub known-there : IsEvidence opened.parts opened.wires opened.vars words → IsEvidenceOf system words
  known-there are = grind arith

  -- they say the same case
  pub case-there : (known : Case) → known ≡ case_of_evidence opened.parts opened.wires words → case_in system words ≡ known
  case-there known e = (λ i. case_of_evidence (sym h.parts i) (sym h.wires i) words) ∙ sym e
