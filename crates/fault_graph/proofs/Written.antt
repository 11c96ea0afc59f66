-- Lists of verdicts as they are written, and states of words.
use Rattle.std.proofs.Common.{◌≡◌, ◌≢◌, ℕ, zero, suc, ◌+◌, ◌<◌, Bool, false, List, [], ◌∷◌, length, set, Some, refl, ap, sym, ◌∙◌, arith, ⊎_elim}
use Rattle.std.specs.Prelude.{◌==◌, slice_get}
use Rattle.std.proofs.lemmas.Bool.{cases_eq, eq-eqb, false≢true}

pub slice_get-set_same : {A : Type 0} (xs : List A) (i : ℕ) (v : A) → i < length xs → slice_get (set xs i v) i ≡ Some v
slice_get-set_same [] i v h = absurd (omega arith)
slice_get-set_same (x ∷ xs) zero v h = refl
slice_get-set_same (x ∷ xs) (suc i) v h = slice_get-set_same xs i v (omega arith)

pub slice_get-set_other : {A : Type 0} (xs : List A) (i k : ℕ) (v : A) → k ≢ i → slice_get (set xs i v) k ≡ slice_get xs k
slice_get-set_other [] i k v ne = refl
slice_get-set_other (x ∷ xs) zero zero v ne = absurd (ne refl)
slice_get-set_other (x ∷ xs) zero (suc k) v ne = refl
slice_get-set_other (x ∷ xs) (suc i) zero v ne = refl
slice_get-set_other (x ∷ xs) (suc i) (suc k) v ne = slice_get-set_other xs i k v (λ e. ne (ap suc e))

-- one more item of a list is written, and those before it are right
pub written-next : {A : Type 0} (xs : List A) (i : ℕ) (v : A) (f : ℕ → A) → i < length xs → ((k : ℕ) → k < i → slice_get xs k ≡ Some (f k)) → v ≡ f i → (k : ℕ) → k < i + 1 → slice_get (set xs i v) k ≡ Some (f k)
written-next xs i v f lt before here k h = ⊎_elim
    (λ (e : k ≡ i). ap (slice_get (set xs i v)) e ∙ slice_get-set_same xs i v lt ∙ ap Some (here ∙ ap f (sym e)))
    (λ (ne : k ≢ i). slice_get-set_other xs i k v ne ∙ before k (omega arith))
    (cases_eq k i)

pub not_open : (said : Bool) {word : ℕ} → said ≡ (word == 0) → said ≡ false → word ≢ 0
not_open said is e zero_word = false≢true (sym e ∙ (is ∙ eq-eqb _ _ zero_word))
