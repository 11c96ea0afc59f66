-- Tests on all lists of `n` bits.
use Rattle.std.proofs.Common.{◌≡◌, ℕ, zero, suc, ◌+◌, Bool, true, false, ◌&&◌, List, [], ◌∷◌, ◌++◌, length, refl, arith}
use Rattle.std.specs.List.{list_any}
use Rattle.state_rules.specs.Bits.{lists_of_bits}
use Rattle.state_rules.specs.Ranking.{Test, passing}
use Rattle.state_rules.proofs.Bits.{any-suc}
use Rattle.state_rules.proofs.Members.{bits_length, filter_same, any_same}

-- two tests agree on every list of `n` bits
abbrev pub Agree : ℕ → Test → Test → Type 0
Agree n p q = (bits : List Bool) → length bits ≡ n → p bits ≡ q bits

-- tests that agree pass the same lists
pub passing-same : (n : ℕ) (p q : Test) → Agree n p q → passing n p ≡ passing n q
passing-same n p q e = filter_same p q (lists_of_bits n) (λ bits m. e bits (bits_length n bits m))

-- one finds a list if the other does
pub any-same : (n : ℕ) (p q : Test) → Agree n p q → list_any p (lists_of_bits n) ≡ list_any q (lists_of_bits n)
any-same n p q e = any_same p q (lists_of_bits n) (λ bits m. e bits (bits_length n bits m))

-- the front of a list can be chosen first
pub any-split : (m n : ℕ) (p : Test) → list_any p (lists_of_bits (m + n)) ≡ list_any (λ front. list_any (λ rest. p (front ++ rest)) (lists_of_bits n)) (lists_of_bits m)
any-split zero n p = grind arith
any-split (suc m) n p =
    let e : suc m + n ≡ suc (m + n) = omega arith in
    grind (arith, any-suc, any-split m n)

-- what does not depend on the list can be tested first
pub any-and : {A : Type 0} (b : Bool) (p : A → Bool) (xs : List A) → list_any (λ x. b && p x) xs ≡ b && list_any p xs
any-and true p xs = refl
any-and false p [] = refl
any-and false p (x ∷ xs) = any-and false p xs
