-- Bits of words: of bitwise conjunctions and disjunctions, and of a word with one bit.
use Rattle.std.proofs.Common.{◌≡◌, ℕ, ◌+◌, ◌*◌, ◌%◌, ◌^◌, ◌<◌, min, max, false, ◌&&◌, ◌||◌, ◌==◌, List, map, length, take, get_or, ap, ◌∙◌, arith}
use Rattle.std.specs.Prelude.{bit_and, bit_or}
use Rattle.std.specs.Int.{bit_at}
use Rattle.std.specs.List.{list_any}
use Rattle.std.proofs.lemmas.Nat.{one_shl}
use Rattle.std.proofs.lemmas.Nat.Bits.{bit_at_and, bit_at_or, bit_at-lt, bit_at-zero, bit_at-pow_same, bit_at-pow_other}
use Rattle.std.proofs.lemmas.List.{take_more, map-append}
use Rattle.state_rules.specs.Bits.{has_bit}
use Rattle.state_rules.proofs.Lists.{any-push}

or-bits : (m n : ℕ) → m < 2 → n < 2 → (max m n == 1) ≡ ((m == 1) || (n == 1))
or-bits m n h g = grind arith

and-bits : (m n : ℕ) → m < 2 → n < 2 → (min m n == 1) ≡ ((m == 1) && (n == 1))
and-bits m n h g = grind arith

pub has_bit-or : (x y b : ℕ) → has_bit (bit_or x y) b ≡ (has_bit x b || has_bit y b)
has_bit-or x y b = ap (λ n. n == 1) (bit_at_or x y b) ∙ or-bits (bit_at x b) (bit_at y b) (bit_at-lt x b) (bit_at-lt y b)

pub has_bit-and : (x y b : ℕ) → has_bit (bit_and x y) b ≡ (has_bit x b && has_bit y b)
has_bit-and x y b = ap (λ n. n == 1) (bit_at_and x y b) ∙ and-bits (bit_at x b) (bit_at y b) (bit_at-lt x b) (bit_at-lt y b)

pub has_bit-zero : (b : ℕ) → has_bit 0 b ≡ false
has_bit-zero b = ap (λ n. n == 1) (bit_at-zero b)

-- only bit `k` of this word of `width` bits is 1
pub one_bit : (width k b : ℕ) → k < width → has_bit (1 * 2 ^ k % 2 ^ width) b ≡ (b == k)
one_bit width k b lt = grind (arith, one_shl, bit_at-pow_same, bit_at-pow_other)

-- ---- the words of some children, joined

-- the joined words of the children before a place, and one word more
pub joined_more : (word : ℕ → ℕ) (kids : List ℕ) (i any b : ℕ) → i < length kids → has_bit any b ≡ list_any (λ x. x) (map (λ k. has_bit (word k) b) (take i kids))
    → has_bit (bit_or any (word (get_or kids i 0))) b ≡ list_any (λ x. x) (map (λ k. has_bit (word k) b) (take (i + 1) kids))
joined_more word kids i any b lt joined = grind (arith, has_bit-or any (word (get_or kids i 0)) b, any-push, take_more kids i 0 lt, map-append)
