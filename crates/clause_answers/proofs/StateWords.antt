-- States as words, and as literals.
use Rattle.std.proofs.Common.{◌≡◌, ℕ, zero, suc, ◌<◌, List, [], ◌∷◌, length, get_or, ℤ, pos, refl, arith}
use Rattle.std.specs.Prelude.{◌==◌}
use Rattle.std.proofs.lemmas.List.{length-map}
use Rattle.state_rules.specs.Bits.{bit_in}
use Rattle.conditioner.specs.Evidence.{bits_of}
use Rattle.clause_encoder.specs.Clauses.{is_positive}
use Rattle.clause_answers.specs.inner.Listed.{signs}

-- the bits that literals say whose words are written
pub words-said : (state : List ℕ) (literals : List ℤ) → length state ≡ length literals
    → ((i : ℕ) → i < length literals → (get_or state i 0 == 0) ≡ is_positive (get_or literals i (pos 0))) → bits_of state ≡ signs literals
words-said [] [] h e = refl
words-said [] (l ∷ literals) h e = absurd (omega arith)
words-said (s ∷ state) [] h e = absurd (omega arith)
words-said (s ∷ state) (l ∷ literals) h e =
    λ i. e 0 (omega arith) i ∷ words-said state literals (omega arith) (λ k lt. e (suc k) (omega (arith, lt))) i

pub length-words : (state : List ℕ) → length (bits_of state) ≡ length state
length-words state = length-map state (λ s. s == 0)

pub word-bit : (state : List ℕ) (i : ℕ) → i < length state → (get_or state i 0 == 0) ≡ bit_in (bits_of state) i
word-bit [] i h = absurd (omega arith)
word-bit (s ∷ state) zero h = refl
word-bit (s ∷ state) (suc i) h = word-bit state i (omega (arith, h))
