-- Numbers that one set has and another one has not.
use Rattle.std.proofs.Common.{◌≡◌, ℕ, ◌+◌, ◌-◌, ◌*◌, ◌/◌, ◌%◌, ◌^◌, ◌<◌, ◌≤◌, Bool, true, false, not, ◌&&◌, List, get_or, arith, bit_and, w32}
use Rattle.std.specs.Prelude.{◌==◌}
use Rattle.std.specs.Int.{bit_at, bit_not, trailing_zeros}
use Rattle.std.proofs.lemmas.Nat.{shr-shr, and_le_l}
use Rattle.std.proofs.lemmas.Nat.Bits.{bit_at-zero, bit_at_and, bit_at_not, bit_at-lt, bit_at_above, bit_at-trailing_zeros}
use Rattle.part_sets.specs.Numbers.{has_number}

-- what is missing, from a place of a word on
abbrev pub gap_of : ℕ → ℕ → ℕ → ℕ
gap_of outer inner r = bit_and outer (bit_not w32 inner) / 2 ^ r

gap-bit : (outer inner r b : ℕ) → inner < 2 ^ 32 → r + b < 32 → (bit_at (gap_of outer inner r) b == 1) ≡ ((bit_at outer (r + b) == 1) && not (bit_at inner (r + b) == 1))
gap-bit outer inner r b small lt = grind (arith, shr-shr (bit_and outer (bit_not w32 inner)) r b, bit_at_and outer (bit_not w32 inner) (r + b), bit_at_not w32 inner (r + b), bit_at-lt)

module _ (outer inner : List ℕ) (at : ℕ) (small : (k : ℕ) → get_or inner k 0 < 2 ^ 32) where
  abbrev pub gap : ℕ
  gap = gap_of (get_or outer (at / 32) 0) (get_or inner (at / 32) 0) (at % 32)

  abbrev pub is_missing : ℕ → Bool
  is_missing p = has_number outer p && not (has_number inner p)

  -- a bit of the gap
  missing-bit : (p : ℕ) → at ≤ p → p / 32 ≡ at / 32 → is_missing p ≡ (bit_at gap (p - at) == 1)
  missing-bit p le e = grind (arith, gap-bit)

  -- if the gap is empty, none is missing in the word
  pub none_missing : gap ≡ 0 → (p : ℕ) → at ≤ p → p < (at / 32 + 1) * 32 → is_missing p ≡ false
  none_missing e p le lt = grind (arith, missing-bit p, bit_at-zero)

  pub gap-fits : get_or outer (at / 32) 0 < 2 ^ 32 → gap < 2 ^ 32
  gap-fits small_outer = grind (arith, and_le_l)

  -- else its lowest bit is the first
  module _ (some : 0 < gap) (fits : gap < 2 ^ 32) where
    abbrev pub lowest : ℕ
    lowest = trailing_zeros w32 gap

    pub lowest-low : get_or outer (at / 32) 0 < 2 ^ 32 → at % 32 + lowest < 32
    lowest-low small_outer = grind (arith, bit_at-trailing_zeros w32 gap some fits, shr-shr, bit_at_above (get_or outer (at / 32) 0) 32, bit_at_and)

    pub first_missing : get_or outer (at / 32) 0 < 2 ^ 32 → is_missing (at + lowest) ≡ true
    first_missing small_outer = grind (arith, bit_at-trailing_zeros w32 gap some fits, lowest-low small_outer, missing-bit (at + lowest))

    pub none_before : get_or outer (at / 32) 0 < 2 ^ 32 → (p : ℕ) → at ≤ p → p < at + lowest → is_missing p ≡ false
    none_before small_outer p le lt = grind (arith, (bit_at-trailing_zeros w32 gap some fits).2 (p - at), lowest-low small_outer, missing-bit p)
