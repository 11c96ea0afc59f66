-- Numbers in five digits are in the order of the numbers.
use Rattle.std.proofs.Common.{◌≡◌, ℕ, ◌+◌, ◌*◌, ◌/◌, ◌%◌, ◌<◌, List, ◌∷◌, ◌++◌, arith}
use Rattle.std.specs.Ordering.{nat_cmp}
use Rattle.std.specs.declared.cmp.Ordering.TheVariants.{Less}
use Rattle.std.specs.Cmp.Lexicographic.{slice_cmp}
use Rattle.device_model.proofs.DigitOrder.{next_digit}
use Rattle.nnf_ask.specs.Asking.{five_digits}

-- five digits that spell a number, the last four of which are below 10
record Spells (n a b c d e : ℕ) : Type 0 where
  sum : n ≡ 10000 * a + 1000 * b + 100 * c + 10 * d + e
  second : b < 10
  third : c < 10
  fourth : d < 10
  fifth : e < 10

spells : (n : ℕ) → Spells n (n / 10000) (n / 1000 % 10) (n / 100 % 10) (n / 10 % 10) (n % 10)
spells n =
    let two : n / 10 / 10 ≡ n / 100 = omega arith in
    let three : n / 100 / 10 ≡ n / 1000 = omega arith in
    let four : n / 1000 / 10 ≡ n / 10000 = omega arith in
    record { sum = omega arith; second = omega arith; third = omega arith; fourth = omega arith; fifth = omega arith }

digits_rise : (m n a b c d e f g h i j : ℕ) (xs ys : List ℕ) → Spells m a b c d e → Spells n f g h i j → m < n
    → slice_cmp nat_cmp ((48 + a) ∷ (48 + b) ∷ (48 + c) ∷ (48 + d) ∷ (48 + e) ∷ xs) ((48 + f) ∷ (48 + g) ∷ (48 + h) ∷ (48 + i) ∷ (48 + j) ∷ ys) ≡ Less
digits_rise m n a b c d e f g h i j xs ys p q l =
    let xs-5 : List ℕ = (48 + e) ∷ xs in
    let ys-5 : List ℕ = (48 + j) ∷ ys in
    let xs-4 : List ℕ = (48 + d) ∷ xs-5 in
    let ys-4 : List ℕ = (48 + i) ∷ ys-5 in
    let xs-3 : List ℕ = (48 + c) ∷ xs-4 in
    let ys-3 : List ℕ = (48 + h) ∷ ys-4 in
    next_digit a f ((48 + b) ∷ xs-3) ((48 + g) ∷ ys-3) (λ k. omega arith)
    (λ s. next_digit b g xs-3 ys-3 (λ k. omega arith)
    (λ t. next_digit c h xs-4 ys-4 (λ k. omega arith)
    (λ u. next_digit d i xs-5 ys-5 (λ k. omega arith)
    (λ v. next_digit e j xs ys (λ k. omega arith) (λ w. absurd (omega arith))))))

-- whatever is after the digits
pub five_digits-rise : (m n : ℕ) (xs ys : List ℕ) → m < n → slice_cmp nat_cmp (five_digits m ++ xs) (five_digits n ++ ys) ≡ Less
five_digits-rise m n xs ys l =
    digits_rise m n (m / 10000) (m / 1000 % 10) (m / 100 % 10) (m / 10 % 10) (m % 10) (n / 10000) (n / 1000 % 10) (n / 100 % 10) (n / 10 % 10) (n % 10)
    xs ys (spells m) (spells n) l
