-- Bits and lists of bits.
use Rattle.std.proofs.Common.{◌≡◌, ℕ, zero, suc, ◌+◌, ◌*◌, ◌/◌, ◌^◌, ◌<◌, ◌≤◌, Bool, true, false, ◌&&◌, ◌||◌, List, [], ◌∷◌, ◌++◌, map, length, take, get_or, refl, arith}
use Rattle.std.specs.List.{list_any}
use Rattle.std.specs.Cmp.Lexicographic.{pointwise}
use Rattle.std.proofs.lemmas.Bool.{false≢true, and_from}
use Rattle.std.proofs.lemmas.List.Folds.{list_any-append}
use Rattle.std.proofs.lemmas.Grind.{pow_more}
use Rattle.std.proofs.lemmas.List.{get_or_append_left}
use Rattle.state_rules.specs.Bits.{same_bit, bit_in, number_of_bit, row_number, lists_of_bits}
use Rattle.state_rules.proofs.Lists.{list_any-map}

-- ---- one bit

pub same_bit-swap : (x y : Bool) → same_bit x y ≡ same_bit y x
same_bit-swap bit other = grind arith

pub same_bit-refl : (x : Bool) → same_bit x x ≡ true
same_bit-refl bit = grind arith

pub same_bit-equal : (x y : Bool) → same_bit x y ≡ true → x ≡ y
same_bit-equal bit other e = grind arith

-- if not both bits are 1 and the second is, the first is 0
pub not_left : (x y : Bool) → (x && y) ≡ false → y ≡ true → x ≡ false
not_left bit y e f = grind arith

-- ---- a list of bits

pub bit_in-front : (xs ys : List Bool) (i : ℕ) → i < length xs → bit_in (xs ++ ys) i ≡ bit_in xs i
bit_in-front xs ys i h = get_or_append_left xs ys false i h

pub pointwise-refl : (bits : List Bool) → pointwise same_bit bits bits ≡ true
pointwise-refl [] = refl
pointwise-refl (b ∷ bits) = and_from _ _ (same_bit-refl b) (pointwise-refl bits)

pub pointwise-equal : (bits others : List Bool) → pointwise same_bit bits others ≡ true → bits ≡ others
pointwise-equal [] others e = grind arith
pointwise-equal (b ∷ bits) [] e = absurd (false≢true e)
pointwise-equal (b ∷ bits) (c ∷ others) e = grind (arith, pointwise-equal bits others)

-- a bit of a list that is made of the first `n` numbers of another
pub bit_in-map : (f : ℕ → Bool) (xs : List ℕ) (n i : ℕ) → i < n → n ≤ length xs → bit_in (map f (take n xs)) i ≡ f (get_or xs i 0)
bit_in-map f xs zero i lt h = absurd (omega arith)
bit_in-map f [] (suc n) i lt h = absurd (omega arith)
bit_in-map f (x ∷ xs) (suc n) zero lt h = refl
bit_in-map f (x ∷ xs) (suc n) (suc i) lt h = bit_in-map f xs n i (omega arith) (omega arith)

-- ---- a list of bits as a number

-- half of a number has one bit less
pub half-below : (r n : ℕ) → r < 2 ^ suc n → r / 2 < 2 ^ n
half-below r n h = omega arith

pub row_number-half : (b : Bool) (n : ℕ) → (number_of_bit b + 2 * n) / 2 ≡ n
row_number-half bit n = grind arith

pub row_number-push : (bits : List Bool) (b : Bool) → row_number (bits ++ b ∷ []) ≡ row_number bits + number_of_bit b * 2 ^ length bits
row_number-push [] b = omega arith
row_number-push (c ∷ bits) b = grind (arith, row_number-push bits b, pow_more 2 (length bits))

-- ---- all lists of `n` bits

-- a test of lists of one bit more, split by their first bit
pub any-suc : (p : List Bool → Bool) (n : ℕ) → list_any p (lists_of_bits (suc n)) ≡ (list_any (λ bits. p (false ∷ bits)) (lists_of_bits n) || list_any (λ bits. p (true ∷ bits)) (lists_of_bits n))
any-suc p n = grind (arith, list_any-append, list_any-map)
