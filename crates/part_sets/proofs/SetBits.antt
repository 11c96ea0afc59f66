-- The bits of words, and the numbers in sets.
use Rattle.std.proofs.Common.{◌≡◌, ℕ, ◌+◌, ◌*◌, ◌/◌, ◌%◌, ◌^◌, ◌<◌, ◌≤◌, Bool, true, false, ◌&&◌, ◌||◌, List, length, get_or, set, arith, bit_or}
use Rattle.std.specs.Prelude.{◌==◌, nat_lt}
use Rattle.std.specs.Int.{bit_at}
use Rattle.std.proofs.lemmas.Nat.Bits.{bit_at-zero}
use Rattle.std.proofs.lemmas.List.{get_or-set_same, get_or-set_other, get_or_past}
use Rattle.state_rules.proofs.WordBits.{has_bit-or, one_bit}
use Rattle.part_sets.specs.Numbers.{has_number}

-- ---- the numbers in a set

pub none_at : (set : List ℕ) (n : ℕ) → get_or set (n / 32) 0 ≡ 0 → has_number set n ≡ false
none_at set n e = grind (arith, bit_at-zero)

-- a set has no number that it has no room for
pub has-within : (set : List ℕ) (n : ℕ) → has_number set n ≡ true → n < 32 * length set
has-within set n e = grind (arith, none_at, get_or_past)

-- of numbers in one word
pub same_place : (n m : ℕ) → n / 32 ≡ m / 32 → (n % 32 == m % 32) ≡ (n == m)
same_place n m e = grind arith

-- one bit is put into an empty set
pub one_is : (xs : List ℕ) (cost n : ℕ) → ((m : ℕ) → has_number xs m ≡ false) → cost / 32 < length xs → has_number (set xs (cost / 32) (1 * 2 ^ (cost % 32) % 4294967296)) n ≡ (n == cost)
one_is xs cost n none h = grind (arith, get_or-set_same, get_or-set_other, one_bit 32 (cost % 32) (n % 32), same_place n cost, none n)

-- ---- words one after the other

-- the words before one have got some numbers
abbrev pub AreAdded : List ℕ → (ℕ → Bool) → ℕ → List ℕ → Type 0
AreAdded old f i new = (n : ℕ) → has_number new n ≡ (has_number old n || (nat_lt (n / 32) i && f n))

pub added_none : (old : List ℕ) (f : ℕ → Bool) → AreAdded old f 0 old
added_none old f n = grind arith

pub added_more : (old xs : List ℕ) (f : ℕ → Bool) (i word : ℕ) → i < length xs → AreAdded old f i xs → ((n : ℕ) → n / 32 ≡ i → (bit_at word (n % 32) == 1) ≡ f n)
    → AreAdded old f (i + 1) (set xs i (bit_or (get_or xs i 0) word))
added_more old xs f i word h are is n = grind (arith, get_or-set_same, get_or-set_other, has_bit-or (get_or xs i 0) word (n % 32), are n, is n)

pub added_all : (old new : List ℕ) (f : ℕ → Bool) (i n : ℕ) → length new ≤ i → AreAdded old f i new → n < 32 * length new → has_number new n ≡ (has_number old n || f n)
added_all old new f i n e are h = grind (arith, are n)
