-- All bits as binary numbers, one after the other.
use Rattle.std.specs.Prelude.{nat_lt}
use Rattle.std.proofs.Common.{◌≡◌, ℕ, zero, suc, ◌+◌, ◌-◌, ◌*◌, ◌^◌, ◌<◌, ◌≤◌, Bool, true, false, ◌&&◌, List, [], ◌∷◌, length, get_or, set, ℤ, refl, arith}
use Rattle.std.proofs.lemmas.Bool.Decides.{nat_tests}
use Rattle.std.proofs.lemmas.Grind.{pow_more}
use Rattle.state_rules.specs.Bits.{row_number, number_of_bit, bit_in}
use Rattle.state_rules.specs.Assignments.{Assignment, assignment}
use Rattle.clause_encoder.specs.Clauses.{is_clause_list}
use Rattle.clause_encoder.proofs.RowBits.{row_number-below}
use Rattle.clause_search.specs.Searching.{Rules, all_true, keeps, all_vars, are_within, are_ordered}
use Rattle.clause_search.proofs.Extended.{AreAlike, all_true-same, keeps-same}

-- ---- adding one

pub number-raised : (bits : List Bool) (i : ℕ) → i < length bits → get_or bits i false ≡ false → row_number (set bits i true) ≡ row_number bits + 2 ^ i
number-raised [] i h e = absurd (omega arith)
number-raised (b ∷ bits) zero h e = grind arith
number-raised (b ∷ bits) (suc i) h e = grind (arith, number-raised bits i)

pub number-lowered : (bits : List Bool) (i : ℕ) → i < length bits → get_or bits i false ≡ true → row_number (set bits i false) + 2 ^ i ≡ row_number bits
number-lowered [] i h e = absurd (omega arith)
number-lowered (b ∷ bits) zero h e = grind arith
number-lowered (b ∷ bits) (suc i) h e = grind (arith, number-lowered bits i)

pub power-more : (i : ℕ) → 2 ^ (i + 1) ≡ 2 ^ i + 2 ^ i
power-more i = grind (arith, pow_more 2 i)

pub zero_number : (bits : List Bool) → ((i : ℕ) → i < length bits → get_or bits i false ≡ false) → row_number bits ≡ 0
zero_number [] h = refl
zero_number (b ∷ bits) h = grind (arith, h 0 (omega arith), zero_number bits (λ i lt. h (suc i) (omega (arith, lt))))

-- ---- all of them

-- the bits of the variables from `v` on
abbrev first_from : Assignment → ℕ → ℕ → List Bool
first_from a v zero = []
first_from a v (suc n) = a v ∷ first_from a (v + 1) n

length-first : (a : Assignment) (v n : ℕ) → length (first_from a v n) ≡ n
length-first a v zero = refl
length-first a v (suc n) = grind (arith, length-first a (v + 1) n)

first-at : (a : Assignment) (v n i : ℕ) → i < n → bit_in (first_from a v n) i ≡ a (v + i)
first-at a v zero i h = absurd (omega arith)
first-at a v (suc n) zero h = let same : v + 0 ≡ v = omega arith in grind arith
first-at a v (suc n) (suc i) h = let same : v + suc i ≡ (v + 1) + i = omega arith in grind (arith, first-at a (v + 1) n i)

first-alike : (a : Assignment) (n : ℕ) → AreAlike n (assignment (first_from a 1 n)) a
first-alike a n v f h = let same : 1 + (v - 1) ≡ v = omega (arith, f) in grind (arith, first-at a 1 n (v - 1) (omega (arith, f, h)))

-- bits that are the same number are the same bits
same_number : (xs ys : List Bool) → length xs ≡ length ys → row_number xs ≡ row_number ys → xs ≡ ys
same_number [] [] h e = refl
same_number [] (y ∷ ys) h e = absurd (omega arith)
same_number (x ∷ xs) [] h e = absurd (omega arith)
same_number (true ∷ xs) (true ∷ ys) h e = λ i. true ∷ same_number xs ys (omega arith) (omega (arith, e)) i
same_number (true ∷ xs) (false ∷ ys) h e = absurd (omega (arith, e))
same_number (false ∷ xs) (true ∷ ys) h e = absurd (omega (arith, e))
same_number (false ∷ xs) (false ∷ ys) h e = λ i. false ∷ same_number xs ys (omega arith) (omega (arith, e)) i

-- whether bits keep the rules and make literals true
abbrev pub is_found : Rules → List ℤ → Assignment → Bool
is_found rules literals a = keeps rules a && all_true a literals

-- all bits that are smaller numbers are not
abbrev pub IsTried : Rules → List ℤ → ℕ → ℕ → Type 0
IsTried rules literals n number = (xs : List Bool) → length xs ≡ n → row_number xs < number → is_found rules literals (assignment xs) ≡ false

pub tried_more : (rules : Rules) (literals : List ℤ) (n : ℕ) (bits : List Bool) → length bits ≡ n → IsTried rules literals n (row_number bits)
    → is_found rules literals (assignment bits) ≡ false → IsTried rules literals n (row_number bits + 1)
tried_more rules literals n bits long before own xs h lt = by_cases (nat_lt (row_number xs) (row_number bits)) refl
  where
    by_cases : (b : Bool) → nat_lt (row_number xs) (row_number bits) ≡ b → is_found rules literals (assignment xs) ≡ false
    by_cases true e = before xs h (grind (arith, nat_tests))
    by_cases false e = let same : xs ≡ bits = same_number xs bits (grind arith) (grind (arith, nat_tests)) in rw same own

-- If all bits were tried, no assignment keeps the rules and makes the literals true.
pub tried_all : (rules : Rules) (literals : List ℤ) (n : ℕ) → is_clause_list rules.cnf ≡ true → are_ordered (rules.cnf.vars + 1) rules.members ≡ true
    → are_within (all_vars rules) literals ≡ true → all_vars rules ≤ n → IsTried rules literals n (2 ^ n)
    → (a : Assignment) → keeps rules a ≡ true → all_true a literals ≡ false
tried_all rules literals n c o w h tried a k =
    let bits : List Bool = first_from a 1 n in
    let alike : AreAlike (all_vars rules) (assignment bits) a = λ v f g. first-alike a n v f (omega (arith, g, h)) in
    let long : length bits ≡ n = length-first a 1 n in
    let none : is_found rules literals (assignment bits) ≡ false = tried bits long (row_number-below bits n long) in
    grind (arith, none, keeps-same rules (assignment bits) a c o alike, all_true-same (all_vars rules) (assignment bits) a literals alike w)

-- what `clear`, `advance` and `try_all` name
pub ruleset zero_bits = (zero_number)

pub ruleset adding = (number-raised, number-lowered, row_number-below)

pub ruleset trying = (row_number-below)
