-- Searches of a list of numbers.
use Rattle.std.proofs.Common.{◌≡◌, ℕ, zero, suc, ◌+◌, ◌<◌, ◌≤◌, Bool, true, false, List, [], ◌∷◌, length, get_or, Some, None, refl, ◌∙◌, arith, inl, inr}
use Rattle.std.proofs.lemmas.Bool.Decides.{nat_tests}
use Rattle.std.specs.List.{find, range_with_len, AllPairs, Contains}
use Rattle.std.specs.List.Sorted.{IsStrictlyIncreasing}
use Rattle.std.proofs.lemmas.Bool.{cond-true, cond-false, cases_Bool, cases_eq}
use Rattle.std.proofs.lemmas.List.Kept.{AllPairs-from_increasing}

-- ---- by places

pub find-none_at : (p : ℕ → Bool) (xs : List ℕ) → ((b : ℕ) → b < length xs → p (get_or xs b 0) ≡ false) → find p xs ≡ None
find-none_at p [] none = refl
find-none_at p (x ∷ xs) none = cond-false _ _ _ (none 0 (omega arith)) ∙ find-none_at p xs (λ b h. none (suc b) (omega arith))

pub find-first_at : (p : ℕ → Bool) (xs : List ℕ) (place : ℕ) → place < length xs → p (get_or xs place 0) ≡ true → ((b : ℕ) → b < place → p (get_or xs b 0) ≡ false) → find p xs ≡ Some (get_or xs place 0)
find-first_at p [] place inside is before = absurd (omega arith)
find-first_at p (x ∷ xs) zero inside is before = cond-true _ _ _ is
find-first_at p (x ∷ xs) (suc place) inside is before = cond-false _ _ _ (before 0 (omega arith)) ∙ find-first_at p xs place (omega arith) is (λ b h. before (suc b) (omega arith))

-- ---- a rising list that has all that pass: a search finds the same as in the whole range

-- from `low` on, each is above the one before it
abbrev pub Rises : ℕ → List ℕ → Type 0
Rises low [] = Unit {0}
Rises low (x ∷ xs) = (low ≤ x) × Rises (x + 1) xs

rises : (low : ℕ) (xs : List ℕ) → ((i : ℕ) → i < length xs → low ≤ get_or xs i 0) → AllPairs (λ x y. x < y) xs → Rises low xs
rises low [] above pairs = tt
rises low (x ∷ xs) above pairs = (
  above 0 (omega arith),
  rises (x + 1) xs (λ i h. let lt : x < get_or xs i 0 = pairs 0 (suc i) 0 (omega arith) (omega arith) in omega arith) (λ i j d h g. pairs (suc i) (suc j) d (omega arith) (omega arith)),
)

pub Rises-from : (xs : List ℕ) → IsStrictlyIncreasing xs → Rises 0 xs
Rises-from xs increasing = rises 0 xs (λ i h. omega arith) (AllPairs-from_increasing xs increasing)

Rises-lower : (low lower : ℕ) (xs : List ℕ) → lower ≤ low → Rises low xs → Rises lower xs
Rises-lower low lower [] le all = tt
Rises-lower low lower (x ∷ xs) le all = (omega (arith, all.0), all.1)

none_above : (p : ℕ → Bool) (low : ℕ) (xs : List ℕ) → Rises low xs → ((v : ℕ) → low ≤ v → p v ≡ false) → find p xs ≡ None
none_above p low [] rising none = refl
none_above p low (x ∷ xs) rising none = cond-false _ _ _ (none x rising.0) ∙ none_above p low xs (Rises-lower (x + 1) low xs (omega (arith, rising.0)) rising.1) none

-- no item of a rising list is below `low`
at_least : (low : ℕ) (xs : List ℕ) (v : ℕ) → Rises low xs → Contains xs v → low ≤ v
at_least low [] v rising (k, inside, is) = absurd (omega arith)
at_least low (x ∷ xs) v rising bit = grind (arith, nat_tests, at_least (x + 1) xs v rising.1)

Contains-later : (x : ℕ) (xs : List ℕ) (v : ℕ) → x < v → Contains (x ∷ xs) v → Contains xs v
Contains-later x xs v above given = grind (arith, nat_tests)

pub find-sparse : (p : ℕ → Bool) (xs : List ℕ) (low count : ℕ) → Rises low xs → ((v : ℕ) → p v ≡ true → v < low + count) → ((v : ℕ) → low ≤ v → p v ≡ true → Contains xs v) → find p xs ≡ find p (range_with_len low count)
find-sparse p xs low zero rising under has = none_above p low xs rising (λ v le. grind (arith, cases_Bool (p v), under v))
find-sparse p [] low (suc count) rising under has = grind (arith, nat_tests, cases_Bool (p low), has low, find-sparse p [] (low + 1) count)
find-sparse p (x ∷ xs) low (suc count) rising under has = elim (cases_eq x low) [
  | inl here ↦ grind (arith, nat_tests, cases_Bool, p, cond-true, cond-false, under, Contains-later, has, find-sparse p xs (low + 1) count)
  | inr other ↦ grind (arith, nat_tests, cases_Bool (p low), at_least (low + 1) (x ∷ xs) low, has low, find-sparse p (x ∷ xs) (low + 1) count)
]
