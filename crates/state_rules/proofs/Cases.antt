-- Bits that agree with what is known of them.
use Rattle.std.proofs.Common.{◌≡◌, ℕ, zero, suc, ◌<◌, Bool, true, cond, ◌&&◌, List, [], ◌∷◌, length, get_or, set, Option, Some, None, refl, arith}
use Rattle.std.proofs.lemmas.Bool.{and_from}
use Rattle.state_rules.specs.Bits.{bit_in, same_bit}
use Rattle.state_rules.specs.Cases.{agrees_at, agrees}

-- ---- one bit

-- the known bit, or 1 if nothing is known
abbrev pub usual_bit : Option Bool → Bool
usual_bit None = true
usual_bit (Some b) = b

pub usual_bit-agrees : (k : Option Bool) → agrees_at k (usual_bit k) ≡ true
usual_bit-agrees k = grind arith

pub agrees_cond : (k : Option Bool) (p x y : Bool) → agrees_at k x ≡ true → agrees_at k y ≡ true → agrees_at k (cond p x y) ≡ true
agrees_cond k bit x y e f = grind arith

-- ---- a list of bits, place by place

pub agrees-at : (known : List (Option Bool)) (bits : List Bool) → length known ≡ length bits → agrees known bits ≡ true → (i : ℕ) → agrees_at (get_or known i None) (bit_in bits i) ≡ true
agrees-at [] bits long all i = refl
agrees-at (k ∷ known) [] long all i = absurd (omega arith)
agrees-at (k ∷ known) (b ∷ bits) long all i = grind (arith, agrees-at known bits)

pub agrees-from : (known : List (Option Bool)) (bits : List Bool) → ((i : ℕ) → i < length bits → agrees_at (get_or known i None) (bit_in bits i) ≡ true) → agrees known bits ≡ true
agrees-from [] bits each = refl
agrees-from (k ∷ known) [] each = refl
agrees-from (k ∷ known) (b ∷ bits) each = and_from _ _ (each 0 (omega arith)) (agrees-from known bits (λ i h. each (suc i) (omega arith)))

-- agreement includes the test at place `n`
pub agrees-place : (ks : List (Option Bool)) (bits : List Bool) (n : ℕ) → n < length bits → agrees ks bits ≡ (agrees ks bits && agrees_at (get_or ks n None) (bit_in bits n))
agrees-place [] bits n within = refl
agrees-place (k ∷ ks) [] n within = absurd (omega (arith, within))
agrees-place (k ∷ ks) (b ∷ bits) zero within = grind arith
agrees-place (k ∷ ks) (b ∷ bits) (suc n) within = grind (arith, agrees-place ks bits n)

-- a bit that becomes known at an open place adds the test of the bit there
pub agrees-set : (ks : List (Option Bool)) (bits : List Bool) (n : ℕ) (bit : Bool) → n < length ks → n < length bits → get_or ks n None ≡ None
    → (agrees ks bits && same_bit bit (bit_in bits n)) ≡ agrees (set ks n (Some bit)) bits
agrees-set [] bits n bit room within is_open = absurd (omega (arith, room))
agrees-set (k ∷ ks) [] n bit room within is_open = absurd (omega (arith, within))
agrees-set (k ∷ ks) (b ∷ bits) zero bit room within is_open = grind arith
agrees-set (k ∷ ks) (b ∷ bits) (suc n) bit room within is_open = grind (arith, agrees-set ks bits n bit)
