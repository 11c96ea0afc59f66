-- What a table does to clauses, by its changes.
use Rattle.std.proofs.Common.{◌≡◌, ℕ, zero, suc, ◌+◌, ◌<◌, ◌≤◌, Bool, true, not, ◌&&◌, ◌||◌, List, [], ◌∷◌, ◌++◌, length, take, drop, get_or, replicate, Some, refl, ap, sym, ◌∙◌, arith}
use Rattle.std.proofs.lemmas.Bool.Decides.{nat_tests}
use mir.Val.{bool_byte}
use Rattle.std.specs.Prelude.{Option}
use Rattle.std.proofs.lemmas.List.{length-append, length-replicate, replicate-append-replicate, append_assoc, take_all, take_more, drop-drop, drop_more}
use Rattle.std.proofs.Math.Seq.{drop-nil}
use Rattle.state_rules.specs.Bits.{bit_in}
use Rattle.forest_states.specs.declared.transition_tables.ClauseTransition.{ClauseTransition}
use Rattle.forest_states.specs.declared.transition_tables.Change.{Change}
use Rattle.forest_states.specs.inner.BitLists.{other_bits, copied}
use Rattle.forest_states.specs.inner.TransitionTables.{true_at, plain, is_plain, spread}
use Rattle.forest_states.specs.inner.Descents.{ended, successor}
use Rattle.forest_states.proofs.Sets.{behind}
use Rattle.forest_states.proofs.Successors.{successor-transition}

pub plain-is : (e : ClauseTransition) → is_plain e ≡ true → e ≡ plain
plain-is e is = grind arith

-- ---- more clauses

pub spread-run : (es : List Change) (n count : ℕ) → spread es (n + count) ≡ spread es n ++ replicate count plain
spread-run [] n count = sym (replicate-append-replicate n count plain)
spread-run (e ∷ es) n count = ap (λ xs. replicate e.run plain ++ (e.transition ∷ xs)) (spread-run es n count) ∙ sym (append_assoc (replicate e.run plain) (e.transition ∷ spread es n) (replicate count plain))

pub spread-change : (es : List Change) (n : ℕ) (x : ClauseTransition) → spread (es ++ (record { run = n; transition = x }) ∷ []) 0 ≡ spread es n ++ x ∷ []
spread-change [] n x = refl
spread-change (e ∷ es) n x = ap (λ xs. replicate e.run plain ++ (e.transition ∷ xs)) (spread-change es n x) ∙ sym (append_assoc (replicate e.run plain) (e.transition ∷ spread es n) (x ∷ []))

pub spread-rest : (es : List Change) (n : ℕ) → spread es 0 ++ replicate n plain ≡ spread es n
spread-rest es n = let same : n ≡ 0 + n = omega arith in sym (ap (spread es) same ∙ spread-run es 0 n)

-- the next change
pub spread-next : (es : List Change) (k : ℕ) (e : Change) → k < length es
    → (spread (take k es) 0 ++ replicate (get_or es k e).run plain) ++ (get_or es k e).transition ∷ [] ≡ spread (take (k + 1) es) 0
spread-next es k e low =
    let next = get_or es k e in
    ap (λ xs. xs ++ next.transition ∷ []) (spread-rest (take k es) next.run) ∙ sym (spread-change (take k es) next.run next.transition) ∙ ap (λ xs. spread xs 0) (sym (take_more es k e low))

-- ---- how many clauses there are

pub length-spread : (es : List Change) (n : ℕ) → length (spread es n) ≡ length (spread es 0) + n
length-spread [] n = omega (arith, length-replicate n plain)
length-spread (e ∷ es) n = grind (arith, length-append, length-spread es n)

abbrev pub none : Change
none = record { run = 0; transition = plain }

pub byte-low : (b : Bool) → bool_byte b ≤ 1
byte-low b = grind arith

-- how many clauses the first changes have
abbrev pub told : List Change → ℕ → ℕ
told es k = length (spread (take k es) 0)

pub told-within : (es : List Change) (rest k : ℕ) → told es k ≤ length (spread es rest)
told-within es rest zero = grind (arith, nat_tests)
told-within [] rest (suc k) = omega arith
told-within (e ∷ es) rest (suc k) = grind (arith, length-append, told-within es rest k)

told-next : (es : List Change) (k : ℕ) (e : Change) → k < length es → told es (suc k) ≡ told es k + (get_or es k e).run + 1
told-next [] k e low = absurd (omega arith)
told-next (x ∷ es) zero e low = grind (arith, length-append, length-replicate)
told-next (x ∷ es) (suc k) e low = grind (arith, length-append, told-next es k e)

pub told-more : (es : List Change) (k : ℕ) (e : Change) → k < length es → told es (k + 1) ≡ told es k + (get_or es k e).run + 1
told-more es k e low = let next : k + 1 ≡ suc k = omega arith in ap (told es) next ∙ told-next es k e low

pub told-all : (es : List Change) (rest k : ℕ) → length es ≤ k → told es k + rest ≡ length (spread es rest)
told-all es rest k all = omega (arith, ap (λ xs. length (spread xs 0)) (take_all k es all), length-spread es rest)

-- ---- clauses that stay as they are

pub behind-nil : (rest : Option (List Bool)) → rest ≡ behind [] rest
behind-nil rest = grind arith

pub behind-twice : (bits more : List Bool) (rest : Option (List Bool)) → behind bits (behind more rest) ≡ behind (bits ++ more) rest
behind-twice bits more rest = grind (arith, append_assoc)

successor-run : (bit : Bool) (n : ℕ) (table : List ClauseTransition) (state : List Bool) → successor bit (replicate n plain ++ table) state ≡ behind (copied n state) (successor bit table (drop n state))
successor-run bit zero table state = behind-nil (successor bit table state)
successor-run bit (suc n) table state = grind (arith, successor-run bit n table (other_bits state), drop-nil {A = Bool} n)

-- up to the next change
pub successor-change : (bit : Bool) (es : List Change) (rest k : ℕ) (e : Change) (state : List Bool) → k < length es
    → successor bit (spread (drop k es) rest) state
    ≡ behind (copied (get_or es k e).run state) (successor bit ((get_or es k e).transition ∷ spread (drop (k + 1) es) rest) (drop (get_or es k e).run state))
successor-change bit es rest k e state low = grind (arith, nat_tests, drop_more, successor-run)

-- and over it
pub successor-on : (bit : Bool) (es : List Change) (rest k n : ℕ) (e : Change) (left state : List Bool) → k < length es
    → behind left (successor bit (spread (drop k es) rest) (drop n state))
    ≡ behind (left ++ copied (get_or es k e).run (drop n state))
    (ended (get_or es k e).transition.ends (((get_or es k e).transition.fresh || bit_in state (n + (get_or es k e).run)) && not (true_at (get_or es k e).transition bit))
    (successor bit (spread (drop (k + 1) es) rest) (drop (n + (get_or es k e).run + bool_byte (not (get_or es k e).transition.fresh)) state)))
successor-on bit es rest k n e left state low =
    let next = get_or es k e in
    ap (behind left) (successor-change bit es rest k e (drop n state) low)
    ∙ behind-twice left (copied next.run (drop n state)) (successor bit (next.transition ∷ spread (drop (k + 1) es) rest) (drop next.run (drop n state)))
    ∙ ap (behind (left ++ copied next.run (drop n state)))
    (ap (successor bit (next.transition ∷ spread (drop (k + 1) es) rest)) (drop-drop next.run n state) ∙ successor-transition bit next.transition (spread (drop (k + 1) es) rest) state (n + next.run))

-- after the last one
pub successor-rest : (bit : Bool) (n : ℕ) (state : List Bool) → successor bit (replicate n plain) state ≡ Some (copied n state)
successor-rest bit zero state = refl
successor-rest bit (suc n) state = grind (arith, successor-rest bit n (other_bits state))
