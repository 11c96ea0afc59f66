-- Lists that are counted once, the first level, and the sum of the first levels.
use Rattle.std.proofs.Common.{◌≡◌, ℕ, ◌+◌, Bool, true, false, List, [], ◌∷◌, arith}
use Rattle.std.specs.List.{list_all, sum_by, range_with_len}
use Rattle.std.proofs.lemmas.List.Sums.{sum_by-append}
use Rattle.state_rules.proofs.Bits.{pointwise-equal}
use Rattle.state_rules.proofs.Lists.{range_more}
use Rattle.clause_encoder.specs.Clauses.{Clause, ClauseList, is_clause, is_clause_list}
use Rattle.elimination_forests.specs.Branches.{order, left, is_covered, some_passes, same_list, different, living, weight}
use Rattle.elimination_forests.proofs.Lists.{is_among, all-at, any-met}
use Rattle.elimination_forests.proofs.PassedClauses.{none_passes}

pub among-different : (ls : List (List Bool)) (x : List Bool) → is_among (different ls) x ≡ is_among ls x
among-different ls x = any-met same_list pointwise-equal (λ other. same_list other x) ls

-- ---- level 0

alive-first : (vars : ℕ) (vs : List ℕ) (cs : List Clause) (list : List Bool) → list_all (is_clause vars) cs ≡ true → some_passes (is_covered vs 0) cs list ≡ false
alive-first vars vs cs list e = grind (arith, none_passes, all-at)

pub first-living : (cnf : ClauseList) → is_clause_list cnf ≡ true → living cnf.clauses 0 ≡ left cnf.clauses [] ∷ []
first-living cnf e = grind (arith, alive-first cnf.vars (order cnf.clauses) cnf.clauses (left cnf.clauses []))

-- ---- the sum

sum-next : (f : ℕ → ℕ) (n : ℕ) → sum_by f (range_with_len 0 (n + 1)) ≡ sum_by f (range_with_len 0 n) + f n
sum-next f n = grind (arith, range_more, sum_by-append)

pub sum-more : (clauses : List Clause) (n : ℕ) → sum_by (weight clauses) (range_with_len 0 (n + 1)) ≡ sum_by (weight clauses) (range_with_len 0 n) + weight clauses n
sum-more clauses n = sum-next (weight clauses) n
