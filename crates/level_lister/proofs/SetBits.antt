-- Bits of words, and words whose numbers are increased.
use Rattle.std.proofs.Common.{◌≡◌, ℕ, ◌+◌, ◌-◌, ◌*◌, ◌/◌, ◌%◌, ◌^◌, ◌<◌, ◌≤◌, false, ◌&&◌, List, length, get_or, set, ap, sym, ◌∙◌, subst, arith, ⊎_elim, bit_and, bit_or}
use Rattle.std.specs.Prelude.{◌==◌}
use Rattle.std.specs.Int.{bit_at}
use Rattle.std.proofs.lemmas.Nat.{pow_pos, or_shifted, shl_whole, shr-shr}
use Rattle.std.proofs.lemmas.Nat.Bits.{bit_at-zero, bit_at_and, bit_at_ones, bit_at-lt, bit_at_cat_low, bit_at_cat_high, bit_at_above}
use Rattle.std.proofs.Math.Nat.{lt-div-mul-add}
use Rattle.std.proofs.Math.ListN.{length-set}
use Rattle.std.proofs.lemmas.Bool.{cases_lt, le-leb, lt-leb}
use Rattle.std.proofs.lemmas.List.{get_or-set_same, get_or-set_other}
use Rattle.part_sets.specs.Numbers.{has_number}
use Rattle.level_lister.specs.inner.CostSets.{has_shifted, word_before}

-- ---- one word

shifted_bit : (x s b : ℕ) → bit_at (x / 2 ^ s) b ≡ bit_at x (s + b)
shifted_bit x s b = ap (λ y. y % 2) (shr-shr x s b)

low_bits : (x b : ℕ) → b < 32 → bit_at (bit_and x 4294967295) b ≡ bit_at x b
low_bits x b h = bit_at_and x 4294967295 b ∙ omega (arith, bit_at_ones 32 b h, bit_at-lt x b)

both_words : (high low : ℕ) → high < 2 ^ 32 → low < 2 ^ 32 → bit_or (high * 4294967296 % 18446744073709551616) low ≡ high * 2 ^ 32 + low
both_words high low h l = ap (λ x. bit_or x low) (shl_whole high 32 32 64 h (omega arith)) ∙ or_shifted high 32 low l

joined : (high low more b : ℕ) → high < 2 ^ 32 → low < 2 ^ 32 → b < 32
    → bit_at (bit_and (bit_or (high * 4294967296 % 18446744073709551616) low / 2 ^ (32 - more)) 4294967295) b ≡ bit_at (high * 2 ^ 32 + low) (32 - more + b)
joined high low more b h l lt =
    low_bits (bit_or (high * 4294967296 % 18446744073709551616) low / 2 ^ (32 - more)) b lt
    ∙ shifted_bit (bit_or (high * 4294967296 % 18446744073709551616) low) (32 - more) b
    ∙ ap (λ x. bit_at x (32 - more + b)) (both_words high low h l)

pub joined_below : (high low more b : ℕ) → high < 2 ^ 32 → low < 2 ^ 32 → more < 32 → b < more
    → bit_at (bit_and (bit_or (high * 4294967296 % 18446744073709551616) low / 2 ^ (32 - more)) 4294967295) b ≡ bit_at low (32 - more + b)
joined_below high low more b h l m lt = joined high low more b h l (omega arith) ∙ bit_at_cat_low high 32 low (32 - more + b) (omega arith)

pub joined_above : (high low more b : ℕ) → high < 2 ^ 32 → low < 2 ^ 32 → more < 32 → more ≤ b → b < 32
    → bit_at (bit_and (bit_or (high * 4294967296 % 18446744073709551616) low / 2 ^ (32 - more)) 4294967295) b ≡ bit_at high (b - more)
joined_above high low more b h l m le lt =
    joined high low more b h l lt ∙ bit_at_cat_high high 32 low (32 - more + b) l (omega arith) ∙ ap (bit_at high) (omega arith)

-- no bit is left from here on
pub no_high : (x s b : ℕ) → x / 2 ^ s ≡ 0 → s ≤ b → (bit_at x b == 1) ≡ false
no_high x s b none le = ap (λ y. y == 1) (bit_at_above x s b small le) where
  small : x < 2 ^ s
  small = let below : x < 0 * 2 ^ s + 2 ^ s = subst (λ d. x < d * 2 ^ s + 2 ^ s) none (lt-div-mul-add (pow_pos s)) in omega (arith, below)

-- ---- the numbers of a set

pub never_shifted : (xs : List ℕ) (more n : ℕ) → n < more → has_shifted xs more n ≡ false
never_shifted xs more n h = ap (λ b. b && has_number xs (n - more)) (lt-leb more n h)

shifted_to : (xs : List ℕ) (more n k b : ℕ) → more ≤ n → (n - more) / 32 ≡ k → (n - more) % 32 ≡ b → has_shifted xs more n ≡ (bit_at (get_or xs k 0) b == 1)
shifted_to xs more n k b le d m = ap (λ t. t && has_number xs (n - more)) (le-leb more n le) ∙ (λ i. bit_at (get_or xs (d i) 0) (m i) == 1)

pub shifted_is : (xs : List ℕ) (i more at low word : ℕ) → at + more / 32 ≡ i → low ≡ word_before xs at
    → ((b : ℕ) → b < more % 32 → bit_at word b ≡ bit_at low (32 - more % 32 + b))
    → ((b : ℕ) → more % 32 ≤ b → b < 32 → bit_at word b ≡ bit_at (get_or xs at 0) (b - more % 32))
    → (n : ℕ) → n / 32 ≡ i → (bit_at word (n % 32) == 1) ≡ has_shifted xs more n
shifted_is xs i more at low word place is below above n e = ⊎_elim
    (λ (lt : n % 32 < more % 32). ap (λ b. b == 1) (below (n % 32) lt) ∙ by_place at place is lt)
    (λ (le : more % 32 ≤ n % 32). ap (λ b. b == 1) (above (n % 32) le (omega arith)) ∙ sym (shifted_to xs more n at (n % 32 - more % 32) (omega arith) (omega arith) (omega arith)))
    (cases_lt (n % 32) (more % 32)) where
      by_place : (at : ℕ) → at + more / 32 ≡ i → low ≡ word_before xs at → n % 32 < more % 32 → (bit_at low (32 - more % 32 + n % 32) == 1) ≡ has_shifted xs more n
      by_place at place is lt = grind (arith, bit_at-zero, never_shifted, shifted_to)

-- ---- words from the last one back

-- the words from `i` on have their new numbers, and those before are as they were
pub record AreMoved (old : List ℕ) (more i : ℕ) (new : List ℕ) : Type 0 where
  pub before : (k : ℕ) → k < i → get_or new k 0 ≡ get_or old k 0
  pub moved : (n : ℕ) → i ≤ n / 32 → n < 32 * length new → has_number new n ≡ has_shifted old more n

pub moved_none : (old : List ℕ) (more i : ℕ) → length old ≤ i → AreMoved old more i old
moved_none old more i all = grind arith

pub moved_more : (old xs : List ℕ) (more i word : ℕ) → i < length xs → AreMoved old more (i + 1) xs → ((n : ℕ) → n / 32 ≡ i → (bit_at word (n % 32) == 1) ≡ has_shifted xs more n)
    → AreMoved old more i (set xs i word)
moved_more old xs more i word h are is = grind (arith, get_or-set_other, get_or-set_same, are.moved, are.before, is, length-set)
