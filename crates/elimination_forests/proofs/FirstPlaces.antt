-- The place at which something is found in a list.
use Rattle.std.proofs.Common.{◌≡◌, ℕ, zero, suc, ◌≤◌, Bool, true, false, List, [], ◌∷◌, ◌++◌, length, take, Some, None, arith}
use Rattle.std.specs.Prelude.{nat_lt, position}
use Rattle.std.specs.List.{list_any, position_or_len}
use Rattle.std.proofs.lemmas.Bool.{false≢true, le-ltb}
use Rattle.std.proofs.lemmas.Bool.Decides.{nat_tests}
use Rattle.std.proofs.lemmas.List.{take_all}

-- an item found in the front has the same place in the whole
pub place-front : {X : Type 0} (p : X → Bool) (xs ys : List X) → list_any p xs ≡ true → position_or_len p (xs ++ ys) ≡ position_or_len p xs
place-front p [] ys e = absurd (false≢true e)
place-front p (x ∷ xs) ys e = grind (arith, place-front p xs ys)

pub place-low : {X : Type 0} (p : X → Bool) (i : ℕ) (xs : List X) → i ≤ length xs → nat_lt (position_or_len p xs) i ≡ list_any p (take i xs)
place-low p zero xs h = le-ltb (position_or_len p xs) 0 (omega arith)
place-low p (suc i) [] h = absurd (omega arith)
place-low p (suc i) (x ∷ xs) h = grind (arith, nat_tests, place-low p i xs)

pub place-there : {X : Type 0} (p : X → Bool) (xs : List X) → nat_lt (position_or_len p xs) (length xs) ≡ list_any p xs
place-there p xs = grind (arith, place-low, take_all)

pub found-at : {X : Type 0} (p : X → Bool) (xs : List X) → list_any p xs ≡ true → position p xs ≡ Some (position_or_len p xs)
found-at p xs e = grind (arith, place-there)

pub not-found : {X : Type 0} (p : X → Bool) (xs : List X) → list_any p xs ≡ false → position p xs ≡ None
not-found p xs e = grind (arith, place-there)
