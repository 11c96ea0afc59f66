-- The rows of a type as bits of a number.
use Rattle.std.proofs.Common.{◌≡◌, ℕ, ◌+◌, ◌*◌, ◌%◌, ◌^◌, ◌<◌, ◌≤◌, Bool, true, List, [], ◌∷◌, ◌++◌, map, length, get_or, take, Some, None, bit_or, sym, ap, ◌∙◌, arith}
use Rattle.std.specs.Prelude.{◌==◌, ◌||◌, if◌then◌else◌}
use Rattle.std.specs.List.{list_all}
use Rattle.std.proofs.Math.Pow.{pow_mono}
use Rattle.std.proofs.lemmas.List.{length-map, length-take-le, map-append, take_more}
use Rattle.std.proofs.lemmas.List.Folds.{list_all_more}
use Rattle.std.specs.Int.{bit_at}
use Rattle.std.specs.Int.Bits.{or_add_and}
use Rattle.std.proofs.lemmas.Nat.{or_lt, pow_below}
use Rattle.std.proofs.lemmas.Nat.Bits.{and_pow}
use Rattle.std.proofs.lemmas.Bool.{and_from}
use Rattle.state_rules.specs.Bits.{row_number, number_of_bit}
use Rattle.state_rules.proofs.Bits.{row_number-push}
use Rattle.component_lang.specs.TypeRows.{is_row, row_in, with_row}

or_of_bit : (rows row b : ℕ) → bit_at rows row ≡ b → bit_or rows (2 ^ row) + b * 2 ^ row ≡ rows + 2 ^ row
or_of_bit rows row b e = ap (λ n. bit_or rows (2 ^ row) + n) (sym (and_pow rows row ∙ ap (λ n. n * 2 ^ row) e)) ∙ or_add_and rows (2 ^ row)

pub with_row-or : (rows row : ℕ) → bit_or rows (2 ^ row) ≡ with_row rows row
with_row-or rows row = grind (arith, or_of_bit)

pub with_row-fits : (k rows row : ℕ) → rows < 2 ^ k → row < k → with_row rows row < 2 ^ k
with_row-fits k rows row h l =
    let below = or_lt k rows (2 ^ row) h (pow_below row k l) in
    omega (arith, with_row-or rows row, below)

pub row_number-fits : (bits : List Bool) → row_number bits < 2 ^ length bits
row_number-fits [] = omega arith
row_number-fits (bit ∷ bits) = grind (arith, row_number-fits bits)

-- 2 to a power below 64 fits 64 bits
pub shifted : (row : ℕ) → row < 64 → 1 * 2 ^ row % 18446744073709551616 ≡ 2 ^ row
shifted row l = let below = pow_below row 64 l in omega (arith, below)

-- ---- the row that a word spells

abbrev is_one : ℕ → Bool
is_one b = b == 49

abbrev pub is_bit : ℕ → Bool
is_bit b = (b == 48) || (b == 49)

row_in-push : (word : List ℕ) (b : ℕ) → row_in (word ++ b ∷ []) ≡ row_in word + number_of_bit (is_one b) * 2 ^ length word
row_in-push word b = grind (arith, map-append, row_number-push, length-map)

pub row_in-fits : (word : List ℕ) → row_in word < 2 ^ length word
row_in-fits word = let fits = row_number-fits (map is_one word) in let same = length-map word is_one in rw (← same) fits

row_in-more : (word : List ℕ) (i b : ℕ) → i < length word → get_or word i 0 ≡ b → row_in (take (i + 1) word) ≡ row_in (take i word) + number_of_bit (is_one b) * 2 ^ i
row_in-more word i b l e =
    ap row_in (take_more word i 0 l) ∙ row_in-push (take i word) (get_or word i 0)
    ∙ ap (λ n. row_in (take i word) + number_of_bit (is_one (get_or word i 0)) * 2 ^ n) (length-take-le i word (omega arith))
    ∙ ap (λ n. row_in (take i word) + number_of_bit (is_one n) * 2 ^ i) e

pub row-zero : (word : List ℕ) (i row : ℕ) → i < length word → get_or word i 0 ≡ 48 → row ≡ row_in (take i word) → row ≡ row_in (take (i + 1) word)
row-zero word i row l e h = omega (arith, row_in-more word i 48 l e)

pub row-one : (word : List ℕ) (i row : ℕ) → i < length word → i < 64 → get_or word i 0 ≡ 49 → row ≡ row_in (take i word) → row + 1 * 2 ^ i % 18446744073709551616 ≡ row_in (take (i + 1) word)
row-one word i row l few e h = omega (arith, row_in-more word i 49 l e, shifted i few)

pub bits-more : (word : List ℕ) (i b : ℕ) → i < length word → get_or word i 0 ≡ b → is_bit b ≡ true → list_all is_bit (take i word) ≡ true → list_all is_bit (take (i + 1) word) ≡ true
bits-more word i b l e is before = list_all_more is_bit word i 0 l ∙ and_from _ _ before (ap is_bit e ∙ is)

-- no overflow
pub row-room : (word : List ℕ) (i row : ℕ) → i < length word → i < 6 → row ≡ row_in (take i word) → row + 1 * 2 ^ i % 18446744073709551616 < 64
row-room word i row l few h = grind (arith, row_in-fits, length-take-le, pow_mono)

-- a row of at most six ports is one of 64
pub row-below : (ports : ℕ) (word : List ℕ) (row : ℕ) → ports ≤ 6 → Some row ≡ (if is_row ports word then Some (row_in word) else None) → row < 64
row-below ports word row few h = grind (arith, pow_mono, row_in-fits)
