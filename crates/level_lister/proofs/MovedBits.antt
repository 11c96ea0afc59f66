-- The bits of a word, moved by those of another.
use Rattle.std.proofs.Common.{◌≡◌, ℕ, ◌+◌, ◌-◌, ◌*◌, ◌/◌, ◌%◌, ◌^◌, ◌<◌, ◌≤◌, true, false, ap, sym, ◌∙◌, arith, ⊎_elim, bit_or}
use Rattle.std.specs.Prelude.{◌⊎◌, ◌==◌}
use Rattle.std.specs.Int.{bit_at}
use Rattle.std.proofs.lemmas.Nat.{pow_pos}
use Rattle.std.proofs.lemmas.Nat.Bits.{bit_at-zero, bit_at_cat_low, bit_at_cat_high, bit_at_above}
use Rattle.std.proofs.lemmas.Bool.{cases_lt, or_cases, or_left, or_right, false≢true}
use Rattle.state_rules.proofs.WordBits.{has_bit-zero, has_bit-or}
use Rattle.state_rules.specs.Bits.{has_bit}
use Rattle.level_lister.specs.inner.Pairs.{SpreadOf, IsSpread}
use Rattle.level_lister.proofs.SetBits.{no_high}

-- a word has no bit from 32 on
pub bit-within : (w n : ℕ) → w < 2 ^ 32 → has_bit w n ≡ true → n < 32
bit-within w n small e = ⊎_elim (λ p. p) (λ p. absurd (false≢true (sym (ap (λ b. b == 1) (bit_at_above w 32 n small p)) ∙ e))) (cases_lt n 32)

cut_bit : (x b : ℕ) → b < 32 → bit_at (x % 4294967296) b ≡ bit_at x b
cut_bit x b h =
    let whole : (x / 4294967296) * 2 ^ 32 + x % 4294967296 ≡ x = omega arith in
    sym (bit_at_cat_low (x / 4294967296) 32 (x % 4294967296) b h) ∙ ap (λ y. bit_at y b) whole

-- a moved word
moved_high : (x k b : ℕ) → k ≤ b → b < 32 → bit_at (x * 2 ^ k % 4294967296) b ≡ bit_at x (b - k)
moved_high x k b le h =
    let none : x * 2 ^ k + 0 ≡ x * 2 ^ k = omega arith in
    cut_bit (x * 2 ^ k) b h ∙ ap (λ y. bit_at y b) (sym none) ∙ bit_at_cat_high x k 0 b (pow_pos k) le

moved_low : (x k b : ℕ) → b < k → b < 32 → bit_at (x * 2 ^ k % 4294967296) b ≡ 0
moved_low x k b lt h =
    let none : x * 2 ^ k + 0 ≡ x * 2 ^ k = omega arith in
    cut_bit (x * 2 ^ k) b h ∙ ap (λ y. bit_at y b) (sym none) ∙ bit_at_cat_low x k 0 b lt ∙ bit_at-zero b

module _ (left right step : ℕ) where
  pub spread_none : IsSpread left right step 0 0
  spread_none = grind (arith, has_bit-zero)

  wider : (count m : ℕ) → SpreadOf left right step count m → SpreadOf left right step (count + 1) m
  wider count m s = grind arith

  pub spread_skip : (count set : ℕ) → has_bit right count ≡ false → IsSpread left right step count set → IsSpread left right step (count + 1) set
  spread_skip count set none is = grind (arith, wider)

  -- no bit is left from here on
  pub spread_end : (count times set : ℕ) → times ≤ count → right / 2 ^ times ≡ 0 → IsSpread left right step times set → IsSpread left right step count set
  spread_end count times set le none is = grind (arith, no_high)

  pub spread_more : (count set : ℕ) → has_bit right count ≡ true → IsSpread left right step count set
      → IsSpread left right step (count + 1) (bit_or set (left * 2 ^ (step * count) % 4294967296))
  spread_more count set some is = record {
    sound = λ m e. ⊎_elim (λ p. wider count m (is.sound m p)) (λ p. by_place m p (cases_lt m (step * count))) (or_cases _ _ (sym (has_bit-or set moved m) ∙ e));
    whole = λ m j e lt f h. has_bit-or set moved (m + step * j) ∙ ⊎_elim
        (λ (p : j < count). or_left _ _ (is.whole m j e p f h))
        (λ (p : count ≤ j). let same : j ≡ count = omega arith in or_right _ _ (at_end m j same e h))
        (cases_lt j count);
  } where
    moved : ℕ
    moved = left * 2 ^ (step * count) % 4294967296

    small : (m : ℕ) → has_bit (left * 2 ^ (step * count) % 4294967296) m ≡ true → m < 32
    small m e = bit-within (left * 2 ^ (step * count) % 4294967296) m (omega arith) e

    by_place : (m : ℕ) → has_bit (left * 2 ^ (step * count) % 4294967296) m ≡ true → (m < step * count) ⊎ (step * count ≤ m) → SpreadOf left right step (count + 1) m
    by_place m p s = grind (arith, moved_low left (step * count) m, moved_high left (step * count) m, small m p)

    at_end : (m j : ℕ) → j ≡ count → has_bit left m ≡ true → m + step * j < 32 → has_bit (left * 2 ^ (step * count) % 4294967296) (m + step * j) ≡ true
    at_end m j same e h = grind (arith, moved_high left (step * count) (m + step * j))
