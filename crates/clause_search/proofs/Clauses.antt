-- Literals of a clause.
use Rattle.std.proofs.Common.{◌≡◌, ℕ, zero, suc, ◌+◌, ◌<◌, true, false, List, [], ◌∷◌, ◌++◌, length, get_or, ℤ, refl, arith}
use Rattle.state_rules.specs.Assignments.{Assignment}
use Rattle.clause_encoder.specs.Clauses.{Clause, is_true_clause}
use Rattle.clause_search.specs.Searching.{holds, all_true}

-- no literal of a clause that is false is true
pub false_at : (a : Assignment) (clause : Clause) (i : ℕ) (d : ℤ) → is_true_clause a clause ≡ false → i < length clause → holds a (get_or clause i d) ≡ false
false_at a [] i d e h = absurd (omega arith)
false_at a (l ∷ clause) zero d e h = grind arith
false_at a (l ∷ clause) (suc i) d e h = grind (arith, false_at a clause i d)

-- each of literals that are all true is true
pub true_at : (a : Assignment) (literals : List ℤ) (i : ℕ) (d : ℤ) → all_true a literals ≡ true → i < length literals → holds a (get_or literals i d) ≡ true
true_at a [] i d e h = absurd (omega arith)
true_at a (l ∷ literals) zero d e h = grind arith
true_at a (l ∷ literals) (suc i) d e h = grind (arith, true_at a literals i d)

-- Literals that are all true and one more of others that are are all true.
pub all_true_more : (a : Assignment) (core literals : List ℤ) (i : ℕ) (d : ℤ) → all_true a core ≡ true → all_true a literals ≡ true → i < length literals
    → all_true a (core ++ get_or literals i d ∷ []) ≡ true
all_true_more a [] literals i d e h lt = grind (arith, true_at a literals i d h lt)
all_true_more a (l ∷ core) literals i d e h lt = grind (arith, all_true_more a core literals i d)
