-- Requests of one move.
use Rattle.std.proofs.Common.{◌≡◌, ◌∷◌, [], ℕ, Bool, List, Option, Some, None, Result, refl, arith}
use Rattle.text_rules.specs.Names.{Name}
use Rattle.text_rules.specs.Tokens.{spaced}
use Rattle.state_rules.specs.Systems.{System}
use Rattle.diag_edge.specs.Edge.{Puts}
use Rattle.script_lang.specs.Script.{asked, Request}
use Rattle.script_lang.specs.declared.line.Request.{Request as Read}
use Rattle.script_lang.specs.declared.line.Request.TheVariants as read
use Rattle.session_rules.specs.declared.refusal.Refusal.{Refusal}
use Rattle.session_rules.specs.declared.refusal.Refusal.TheVariants.{NoSession}
use Rattle.session_rules.specs.Refusals.{refusal_row, error_words}
use Rattle.session_rules.specs.Items.{line}
use Rattle.session_rules.specs.Sessions.{Table, Entry, Move, changed, declined, outcome, when_open, entry_of}
use Rattle.session_rules.specs.Spelling.{Replies}
use Rattle.session_rules.proofs.Broken.{carries_one}
use Rattle.session_rules.proofs.Spellings.{replies_one}
use Rattle.session_core.specs.Services.{Shown, outcome_of}
use Rattle.session_core.specs.inner.Obeying.{Obeys}

-- a service with another table
abbrev pub with_table : Shown → Table → Shown
with_table shown table = record shown { table = table }

-- the entry of an open session decides the answer to its request
pub asked_open : (old : Shown) (session : Name) (request : Request) (entry : Entry) → entry_of session old.table ≡ Some entry → outcome_of old session request ≡ when_open old.system session entry request
asked_open old session request entry found = grind arith

-- a request of one move was carried out
pub obeys_one : {T E : Type 0} (old new : Shown) (session : Name) (request : Request) (move : Move) (before after : Option (List ℕ)) (result : Result T E) → outcome_of old session request ≡ move ∷ []
    → new ≡ with_table old (changed session move.change old.table) → Replies before after result move.items → Obeys old new session request before after result
obeys_one old new session request move before after result is becomes reply = grind (arith, carries_one)

-- a refusal
pub obeys_refusal : {T E : Type 0} (old : Shown) (session : Name) (request : Request) (before after : Option (List ℕ)) (result : Result T E) (refusal : Refusal)
    → outcome_of old session request ≡ declined session refusal → Puts before after result (spaced (session ∷ error_words (refusal_row refusal))) → Obeys old old session request before after result
obeys_refusal old session request before after result refusal is put =
    obeys_one old old session request _ before after result is refl (replies_one before after result (line (session ∷ error_words (refusal_row refusal))) _ refl put)

unopened_by : (system : System) (session : Name) (full : Bool) (request : Read) → (request ≡ read.Start → ⊥) → outcome system session full None (asked request) ≡ declined session NoSession
unopened_by system session full read.Start other = absurd (other refl)
unopened_by system session full request other = refl

-- a session that is not open can only be opened
pub unopened : (old : Shown) (session : Name) (request : Read) → (request ≡ read.Start → ⊥) → entry_of session old.table ≡ None → outcome_of old session (asked request) ≡ declined session NoSession
unopened old session request other none = grind (arith, unopened_by)
