-- What a bit of a variable does to one clause.
use Rattle.std.proofs.Common.{arith, ◌≡◌, ℕ, Bool, false, ◌&&◌, ◌||◌, List, [], ◌∷◌, refl}
use Rattle.std.proofs.lemmas.Bool.Decides.{nat_tests}
use Rattle.clause_encoder.specs.Clauses.{Clause}
use Rattle.elimination_forests.specs.Branches.{has_true}
use Rattle.elimination_forests.specs.Forests.{meets}
use Rattle.forest_states.specs.inner.Descents.{has_var}

-- whether the clause has begun, and goes on in the tree
abbrev pub is_active : List ℕ → List ℕ → Clause → Bool
is_active vs bound c = meets bound c && meets vs c

-- whether it is active, or begins with the variable
abbrev pub is_met : ℕ → List ℕ → List ℕ → Clause → Bool
is_met v ws bound c = (has_var v c || meets bound c) && (has_var v c || meets ws c)

pub meets-more : (v : ℕ) (bound : List ℕ) (c : Clause) → meets (v ∷ bound) c ≡ (has_var v c || meets bound c)
meets-more v bound [] = refl
meets-more v bound (l ∷ c) = grind (arith, meets-more v bound c)

-- if it does not have the variable
pub true-apart : (v : ℕ) (bit : Bool) (c : Clause) → has_var v c ≡ false → has_true v bit c ≡ false
true-apart v bit [] e = refl
true-apart v bit (l ∷ c) e = grind (arith, nat_tests, true-apart v bit c)
