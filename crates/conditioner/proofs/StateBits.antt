-- The bits of a state in words.
use Rattle.std.proofs.Common.{◌≡◌, ◌≢◌, ℕ, zero, suc, ◌<◌, Bool, true, false, not, List, [], ◌∷◌, length, get_or, refl, sym, ap, ◌∙◌, arith}
use Rattle.std.specs.Prelude.{◌==◌}
use Rattle.std.proofs.lemmas.Bool.{eq-eqb, ne_eqb, eqb-true, false≢true, not-false}
use Rattle.state_rules.specs.Bits.{bit_in}
use Rattle.conditioner.specs.Evidence.{bits_of}

pub bit_in-bits : (state : List ℕ) (i : ℕ) → i < length state → bit_in (bits_of state) i ≡ (get_or state i 0 == 0)
bit_in-bits [] i h = absurd (omega arith)
bit_in-bits (s ∷ state) zero h = refl
bit_in-bits (s ∷ state) (suc i) h = bit_in-bits state i (omega arith)

pub is_ok : (state : List ℕ) (i : ℕ) → i < length state → get_or state i 0 ≡ 0 → bit_in (bits_of state) i ≡ true
is_ok state i h e = bit_in-bits state i h ∙ eq-eqb (get_or state i 0) 0 e

pub is_faulty : (state : List ℕ) (i : ℕ) → i < length state → get_or state i 0 ≢ 0 → bit_in (bits_of state) i ≡ false
is_faulty state i h ne = bit_in-bits state i h ∙ ne_eqb (get_or state i 0) 0 ne

-- what the test of a word says
pub faulty_word : (word : ℕ) (faulty : Bool) → faulty ≡ not (word == 0) → faulty ≡ true → word ≢ 0
faulty_word word faulty is said zero_word = false≢true (sym (ap not (eq-eqb word 0 zero_word)) ∙ (sym is ∙ said))

pub ok_word : (word : ℕ) (faulty : Bool) → faulty ≡ not (word == 0) → faulty ≡ false → word ≡ 0
ok_word word faulty is said = eqb-true word 0 (not-false (word == 0) (sym is ∙ said))
