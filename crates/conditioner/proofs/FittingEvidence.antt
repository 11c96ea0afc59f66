-- Bits that agree with evidence, place by place.
use Rattle.std.proofs.Common.{◌≡◌, ℕ, zero, suc, ◌<◌, Bool, true, false, List, [], ◌∷◌, ◌++◌, length, take, get_or, Some, None, refl, sym, ◌∙◌, subst, arith}
use Rattle.std.proofs.lemmas.Bool.{and_parts, and_from}
use Rattle.std.proofs.lemmas.List.{length-map}
use Rattle.state_rules.specs.Bits.{bit_in}
use Rattle.state_rules.specs.Cases.{agrees_at, agrees}
use Rattle.state_rules.proofs.Cases.{agrees-at, agrees-from}
use Rattle.conditioner.specs.Evidence.{known_of, word_of, known}
use Rattle.conditioner.specs.Models.{fits_evidence}

pub known_of-word_of : (b : Bool) → known_of (word_of b) ≡ Some b
known_of-word_of true = refl
known_of-word_of false = refl

pub word_of-small : (b : Bool) → word_of b < 3
word_of-small true = omega arith
word_of-small false = omega arith

pub known-at : (evidence : List ℕ) (i : ℕ) → get_or (known evidence) i None ≡ known_of (get_or evidence i 0)
known-at [] i = refl
known-at (w ∷ evidence) zero = refl
known-at (w ∷ evidence) (suc i) = known-at evidence i

pub fits_evidence-at : (evidence : List ℕ) (bits : List Bool) → length bits ≡ length evidence → fits_evidence evidence bits ≡ true → (i : ℕ) → agrees_at (known_of (get_or evidence i 0)) (bit_in bits i) ≡ true
fits_evidence-at evidence bits long all i =
    subst (λ k. agrees_at k (bit_in bits i) ≡ true) (known-at evidence i) (agrees-at (known evidence) bits (length-map evidence known_of ∙ sym long) all i)

pub fits_evidence-from : (evidence : List ℕ) (bits : List Bool) → ((i : ℕ) → i < length bits → agrees_at (known_of (get_or evidence i 0)) (bit_in bits i) ≡ true) → fits_evidence evidence bits ≡ true
fits_evidence-from evidence bits each = agrees-from (known evidence) bits (λ i h. subst (λ k. agrees_at k (bit_in bits i) ≡ true) (sym (known-at evidence i)) (each i h))

-- the first bits agree with the front of the evidence
pub fits_evidence-front : (evidence : List ℕ) (front others : List Bool) → fits_evidence evidence (front ++ others) ≡ true → fits_evidence (take (length front) evidence) front ≡ true
fits_evidence-front evidence [] others all = refl
fits_evidence-front [] (b ∷ front) others all = refl
fits_evidence-front (w ∷ evidence) (b ∷ front) others all =
    let parts = and_parts (agrees_at (known_of w) b) (agrees (known evidence) (front ++ others)) all in
    and_from _ _ parts.0 (fits_evidence-front evidence front others parts.1)
