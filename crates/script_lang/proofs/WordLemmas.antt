-- Lemmas about the words of a line, and their parts.
use Rattle.std.proofs.Common.{◌≡◌, ℕ, zero, suc, ◌-◌, ◌<◌, true, false, ◌==◌, List, [], ◌∷◌, length, get_or, take, drop, Some, None, refl, ap, ◌∙◌, arith, add-zero}
use Rattle.std.proofs.lemmas.Bool.{cond-true, cond-false}
use Rattle.std.proofs.lemmas.List.{take_rest, get_or-drop}
use Rattle.std.specs.Option.{option_map}
use Rattle.script_lang.specs.Script.{at_equals}

-- the first byte of the slice from a place on
pub first_from : (bytes : List ℕ) (n : ℕ) → get_or (take (length bytes - n) (drop n bytes)) 0 0 ≡ get_or bytes n 0
first_from bytes n = rw (take_rest bytes n, get_or-drop n bytes 0 0, add-zero n)

-- a word is cut at its first equals sign
pub at_equals-place : (word : List ℕ) (n : ℕ) → n < length word → ((k : ℕ) → k < n → (get_or word k 0 == 61) ≡ false) → (get_or word n 0 == 61) ≡ true → at_equals word ≡ Some (take n word, drop (suc n) word)
at_equals-place [] n inside before here = absurd (omega arith)
at_equals-place (b ∷ word) zero inside before here = cond-true _ _ _ here
at_equals-place (b ∷ word) (suc n) inside before here =
    cond-false _ _ _ (before 0 (omega arith)) ∙ ap (option_map (λ (pair : List ℕ × List ℕ). (b ∷ pair.0, pair.1))) (at_equals-place word n (omega arith) (λ k below. before (suc k) (omega arith)) here)

-- a word without an equals sign is not cut
pub at_equals-none : (word : List ℕ) → ((k : ℕ) → k < length word → (get_or word k 0 == 61) ≡ false) → at_equals word ≡ None
at_equals-none [] none = refl
at_equals-none (b ∷ word) none =
    cond-false _ _ _ (none 0 (omega arith)) ∙ ap (option_map (λ (pair : List ℕ × List ℕ). (b ∷ pair.0, pair.1))) (at_equals-none word (λ k below. none (suc k) (omega arith)))
