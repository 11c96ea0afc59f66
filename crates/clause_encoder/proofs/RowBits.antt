-- The bits of a row number, and the clauses that are false in one row.
use Rattle.std.proofs.Common.{◌≡◌, ℕ, zero, suc, ◌+◌, ◌*◌, ◌/◌, ◌%◌, ◌^◌, ◌<◌, ◌≤◌, Bool, true, not, ◌&&◌, ◌||◌, cond, List, [], ◌∷◌, map, length, count_by, refl, ap, sym, ◌∙◌, arith, add-one}
use Rattle.std.specs.Prelude.{◌==◌, count_ones}
use Rattle.std.specs.Int.{bit_at}
use Rattle.std.specs.List.{list_any, list_all, filter, range_with_len}
use Rattle.std.proofs.lemmas.Nat.Bits.{bit_at-suc, bit_at_lowest}
use Rattle.std.proofs.lemmas.Bool.Decides.{nat_tests}
use Rattle.std.proofs.lemmas.List.Sums.{sum_by-cons}
use Rattle.std.proofs.lemmas.List.Filters.{length-filter_both}
use Rattle.std.proofs.lemmas.List.FromFn.{length-range_with_len}
use lib.Count.{ones, ones_step}
use Rattle.state_rules.specs.Bits.{same_bit, number_of_bit, row_number, has_odd_ones, has_bit}
use Rattle.state_rules.specs.Assignments.{Assignment}
use Rattle.state_rules.proofs.Bits.{half-below, row_number-half}
use Rattle.clause_encoder.specs.Encoding.{row_bits, rows_of, blocking_literals}
use Rattle.clause_encoder.proofs.Literals.{lit, lit-literal}

-- each variable is above 0
abbrev pub AllPositive : List ℕ → Type 0
AllPositive [] = Unit {0}
AllPositive (v ∷ vs) = (1 ≤ v) × AllPositive vs

-- ---- a row number by halves

has_bit-more : (r k : ℕ) → has_bit r (k + 1) ≡ has_bit (r / 2) k
has_bit-more r k = ap (λ i. bit_at r i == 1) (add-one k) ∙ ap (λ b. b == 1) (bit_at-suc r k)

sets-more : (r k n : ℕ) → map (has_bit r) (range_with_len (k + 1) n) ≡ map (has_bit (r / 2)) (range_with_len k n)
sets-more r k zero = refl
sets-more r k (suc n) = λ i. has_bit-more r k i ∷ sets-more r (k + 1) n i

pub row_bits-cons : (r v : ℕ) (vs : List ℕ) → row_bits r (v ∷ vs) ≡ has_bit r 0 ∷ row_bits (r / 2) vs
row_bits-cons r v vs = λ i. has_bit r 0 ∷ sets-more r 0 (length vs) i

pub has_bit-zero : (r : ℕ) → has_bit r 0 ≡ (r % 2 == 1)
has_bit-zero r = ap (λ b. b == 1) (bit_at_lowest r)

bit-of : (b : Bool) (n : ℕ) → has_bit (number_of_bit b + 2 * n) 0 ≡ b
bit-of b n = grind arith

pub row_bits-number : (bits : List Bool) (vs : List ℕ) → length bits ≡ length vs → row_bits (row_number bits) vs ≡ bits
row_bits-number [] vs h = grind arith
row_bits-number (b ∷ bits) [] h = absurd (omega arith)
row_bits-number (b ∷ bits) (v ∷ vs) h = grind (arith, row_bits-cons (row_number (b ∷ bits)) v vs, bit-of b (row_number bits), row_number-half b (row_number bits), row_bits-number bits vs)

pub row_number-below : (bits : List Bool) (n : ℕ) → length bits ≡ n → row_number bits < 2 ^ n
row_number-below [] n h = grind arith
row_number-below (b ∷ bits) zero h = absurd (omega arith)
row_number-below (bit ∷ bits) (suc n) h = grind (arith, row_number-below bits n)

-- ---- whether a row differs from that of the variables

differs : (bit : Bool) (r n : ℕ) → (same_bit (not (r % 2 == 1)) bit || not (r / 2 == n)) ≡ not (r == number_of_bit bit + 2 * n)
differs bit r n = grind arith

-- The literals that are false in a row are all false if the variables have that row.
pub blocking_literals-row : (a : Assignment) (vs : List ℕ) (r : ℕ) → AllPositive vs → r < 2 ^ length vs
    → list_any (lit a) (blocking_literals vs (row_bits r vs)) ≡ not (r == row_number (map a vs))
blocking_literals-row a [] r h lt = grind (arith, nat_tests)
blocking_literals-row a (v ∷ vs) r h lt = grind (arith, row_bits-cons r v vs, lit-literal a (not (has_bit r 0)) v h.0, blocking_literals-row a vs (r / 2) h.1 (half-below r (length vs) lt), has_bit-zero r, differs (a v) r (row_number (map a vs)))

-- ---- tests of all rows, of which one decides

all-past : (q : ℕ → Bool) (n k row : ℕ) → row < k → list_all (λ r. not (r == row) || q r) (range_with_len k n) ≡ true
all-past q zero k row h = refl
all-past q (suc n) k row h = grind (arith, nat_tests, all-past q n (k + 1) row (omega arith))

all-at : (q : ℕ → Bool) (n k row : ℕ) → k ≤ row → row < k + n → list_all (λ r. not (r == row) || q r) (range_with_len k n) ≡ q row
all-at q zero k row h lt = absurd (omega arith)
all-at q (suc n) k row h lt = grind (arith, all-past, all-at q n (k + 1) row)

all-same : (p q : ℕ → Bool) (n k : ℕ) → ((r : ℕ) → r < k + n → p r ≡ q r) → list_all p (range_with_len k n) ≡ list_all q (range_with_len k n)
all-same p q zero k h = refl
all-same p q (suc n) k h = λ i. h k (omega arith) i && all-same p q n (k + 1) (λ r lt. h r (omega arith)) i

-- every other row passes, so this one decides
pub all-rows : (p q : ℕ → Bool) (vs : List ℕ) (row : ℕ) → row < 2 ^ length vs → ((r : ℕ) → r < 2 ^ length vs → p r ≡ (not (r == row) || q r))
    → list_all p (rows_of vs) ≡ q row
all-rows p q vs row lt h = all-same p (λ r. not (r == row) || q r) (2 ^ length vs) 0 (λ r k. h r (omega (arith, k)))
    ∙ all-at q (2 ^ length vs) 0 row (omega arith) (omega arith)

pub all-filtered : {A : Type 0} (p : A → Bool) (f : ℕ → A) (keep : ℕ → Bool) (rs : List ℕ)
    → list_all p (map f (filter keep rs)) ≡ list_all (λ r. not (keep r) || p (f r)) rs
all-filtered p f keep [] = refl
all-filtered p f keep (r ∷ rs) = grind (arith, nat_tests, all-filtered p f keep rs)

-- ---- the number of set bits

pub count-cons : (b : Bool) (bits : List Bool) → count_by (λ b. b) (b ∷ bits) ≡ cond b 1 0 + count_by (λ b. b) bits
count-cons b bits = sum_by-cons (λ (b : Bool). cond b 1 0) b bits

odd-bit : (r : ℕ) → cond (r % 2 == 1) 1 0 ≡ r % 2
odd-bit r = grind (arith, nat_tests)

no_ones : (r : ℕ) → r ≡ 0 → 0 ≡ count_ones r
unfolding ones
no_ones r e = ap count_ones (sym e)

pub ones-set : (n r : ℕ) → r < 2 ^ n → count_by (λ b. b) (map (has_bit r) (range_with_len 0 n)) ≡ count_ones r
ones-set zero r h = no_ones r (omega arith)
ones-set (suc n) r h = grind (arith, sets-more r 0 n, count-cons (has_bit r 0) (map (has_bit (r / 2)) (range_with_len 0 n)), has_bit-zero r, ones-set n (r / 2) (half-below r n h), odd-bit r, ones_step r)

-- a row has an odd number of ones
pub odd-row : (vs : List ℕ) (r : ℕ) → r < 2 ^ length vs → (count_ones r % 2 == 1) ≡ has_odd_ones (row_bits r vs)
odd-row vs r h = ap (λ n. n % 2 == 1) (sym (ones-set (length vs) r h))

count-kept : (f : ℕ → Bool) (rs : List ℕ) → count_by (λ b. b) (map f rs) ≡ length (filter f rs)
count-kept f [] = refl
count-kept f (r ∷ rs) = grind (arith, count-cons (f r) (map f rs), count-kept f rs)

-- the number of rows outside a set
pub others : (set : ℕ) (n : ℕ) → set < 2 ^ n → length (filter (λ r. not (has_bit set r)) (range_with_len 0 n)) + count_ones set ≡ n
others set n h = grind (arith, length-filter_both (has_bit set) (λ r. not (has_bit set r)) (λ r. refl) (range_with_len 0 n), count-kept (has_bit set), ones-set n set h, length-range_with_len 0 n)
