-- The word of all bits, and the bit of a variable among those from a first one on.
use Rattle.std.proofs.Common.{◌≡◌, ℕ, ◌+◌, ◌-◌, ◌*◌, ◌%◌, ◌^◌, ◌<◌, ◌≤◌, true, ◌==◌, ap, ◌∙◌, arith}
use Rattle.std.specs.Prelude.{◌⊎◌}
use Rattle.std.proofs.lemmas.Bool.{cases_eq}
use Rattle.std.proofs.lemmas.Nat.Bits.{bit_at_ones}
use Rattle.state_rules.proofs.WordBits.{one_bit}
use Rattle.state_rules.specs.Bits.{has_bit}

-- the greatest word has all bits
pub has_bit-all : (b : ℕ) → b < 64 → has_bit 18446744073709551615 b ≡ true
has_bit-all b h = ap (λ n. n == 1) (bit_at_ones 64 b h)

-- ---- one variable

pub found-bit : (var first b : ℕ) → first ≤ var → var - first < 64 → has_bit (1 * 2 ^ (var - first) % 18446744073709551616) b ≡ (var == first + b)
found-bit var first b low high = one_bit 64 (var - first) b high ∙ by (cases_eq b (var - first)) where
  by : (b ≡ var - first) ⊎ (b ≡ var - first → ⊥) → (b == (var - first)) ≡ (var == first + b)
  by x = grind arith
