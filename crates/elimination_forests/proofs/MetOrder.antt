-- The order of the variables, as they first occur.
use Rattle.std.proofs.Common.{◌≡◌, ℕ, suc, ◌+◌, ◌<◌, ◌≤◌, ◌^◌, Bool, true, not, ◌||◌, cond, List, [], ◌∷◌, ◌++◌, length, refl, sym, arith}
use Rattle.std.specs.Prelude.{◌==◌}
use Rattle.std.specs.List.{list_any, list_all, filter}
use Rattle.std.proofs.lemmas.Bool.{eqb-true}
use Rattle.std.proofs.lemmas.Bool.Decides.{nat_tests}
use Rattle.std.proofs.lemmas.List.Elements.{filter-append}
use Rattle.clause_encoder.specs.Clauses.{ClauseList, is_clause, is_clause_list}
use Rattle.elimination_forests.specs.Branches.{first_met, same_variable}
use Rattle.elimination_forests.proofs.Lists.{any-met}

abbrev pub among : List ℕ → ℕ → Bool
among vs v = list_any (same_variable v) vs

pub eqb-swap : (u v : ℕ) → (u == v) ≡ (v == u)
eqb-swap u v = grind (arith, nat_tests)

-- ---- first occurrences

pub same_exact : (u v : ℕ) → same_variable u v ≡ true → u ≡ v
same_exact u v e = sym (eqb-true v u e)

pub among-first_met : (vs : List ℕ) (v : ℕ) → among (first_met same_variable vs) v ≡ among vs v
among-first_met vs v = any-met same_variable same_exact (same_variable v) vs

last : (x v : ℕ) (s t : Bool) → (v == x) ≡ s → filter (λ u. not (u == x)) (cond t [] (v ∷ [])) ≡ cond (s || t) [] (v ∷ [])
last x v s t e = grind (arith, e)

pub first_met-push : (vs : List ℕ) (v : ℕ) → first_met same_variable (vs ++ v ∷ []) ≡ first_met same_variable vs ++ cond (among vs v) [] (v ∷ [])
first_met-push [] v = refl
first_met-push (x ∷ vs) v = grind (arith, nat_tests, first_met-push vs v, filter-append, last, eqb-swap)

pub one_more : (n : ℕ) → 1 + n ≡ suc n
one_more n = omega arith

-- ---- a clause list

pub clauses-valid : (cnf : ClauseList) → is_clause_list cnf ≡ true → (cnf.vars < 2 ^ 29) × (length cnf.clauses ≤ 262144) × (list_all (is_clause cnf.vars) cnf.clauses ≡ true)
clauses-valid cnf e = grind (arith, nat_tests)
