-- The order of names that begin with digits: the first different digit decides.
use Rattle.std.proofs.Common.{◌≡◌, ℕ, ◌+◌, ◌<◌, List, ◌∷◌, arith}
use Rattle.std.specs.Ordering.{nat_cmp}
use Rattle.std.specs.declared.cmp.Ordering.TheVariants.{Less}
use Rattle.std.specs.Cmp.Lexicographic.{slice_cmp}

-- a first digit is not above the other, and if they are equal the rest is below
pub next_digit : (x y : ℕ) (xs ys : List ℕ) → (y < x → ⊥) → (x ≡ y → slice_cmp nat_cmp xs ys ≡ Less) → slice_cmp nat_cmp ((48 + x) ∷ xs) ((48 + y) ∷ ys) ≡ Less
next_digit x y xs ys not_above rest = grind arith
