-- The clauses that have each variable, clause by clause and literal by literal.
use Rattle.std.proofs.Common.{◌≡◌, ℕ, zero, suc, ◌+◌, ◌<◌, ◌≤◌, Bool, true, false, ◌||◌, List, [], ◌∷◌, ◌++◌, length, take, get_or, set, get_or-set_same, get_or-set_other, refl, ap, sym, ◌∙◌, arith, ℤ, pos, negsuc, add-one}
use lib.IntN.{nat_abs}
use Rattle.std.specs.Prelude.{◌==◌, nat_lt, nat_le, if◌then◌else◌}
use Rattle.std.specs.List.{filter, list_all, range_with_len}
use Rattle.std.proofs.lemmas.Bool.{false≢true, and_parts, ltb-true, leb-true, leb-false}
use Rattle.std.proofs.lemmas.Bool.Decides.{nat_tests}
use Rattle.std.proofs.lemmas.List.{take_more, append-nil, get_or_past}
use Rattle.std.proofs.lemmas.List.Elements.{filter-append}
use Rattle.state_rules.proofs.Lists.{any-push, range_more, filter-never, list_all-at}
use Rattle.clause_encoder.specs.Clauses.{Clause, ClauseList, var_of, vars_rise, is_clause, is_clause_list}
use Rattle.elimination_forests.proofs.MetOrder.{clauses-valid}
use Rattle.forest_states.specs.inner.Descents.{has_var}
use Rattle.forest_states.proofs.MarkedVariables.{all-wider}
use Rattle.forest_states.proofs.Numbers.{IsIndex, filter-within}

pub abs-var : (l : ℤ) → nat_abs l ≡ var_of l
abs-var (pos n) = refl
abs-var (negsuc n) = sym (add-one n)

-- a variable is not among the earlier ones
rise-new : (below : ℕ) (c : Clause) (k : ℕ) (d : ℤ) → vars_rise below c ≡ true → k < length c → (below < var_of (get_or c k d)) × (has_var (var_of (get_or c k d)) (take k c) ≡ false)
rise-new below [] k d e low = absurd (omega arith)
rise-new below (l ∷ c) zero d e low = (ltb-true below (var_of l) (and_parts (nat_lt below (var_of l)) (vars_rise (var_of l) c) e).0, refl)
rise-new below (l ∷ c) (suc k) d e low = let rest = rise-new (var_of l) c k d in (grind (arith, nat_tests, rest), grind (arith, nat_tests, rest))

has-more : (v : ℕ) (c : Clause) (k : ℕ) (d : ℤ) → k < length c → has_var v (take (k + 1) c) ≡ (has_var v (take k c) || (v == var_of (get_or c k d)))
has-more v c k d low = ap (has_var v) (take_more c k d low) ∙ any-push (λ l. v == var_of l) (take k c) (get_or c k d)

module _ (of : List (List ℕ)) (u v number : ℕ) (base : List ℕ) (c : Clause) (k : ℕ) (d : ℤ) (low : k < length c) (is : u ≡ var_of (get_or c k d))
    (was : get_or of v [] ≡ base ++ (if has_var v (take k c) then number ∷ [] else [])) where
  abbrev Goal : List (List ℕ) → Type 0
  Goal next = get_or next v [] ≡ base ++ (if has_var v (take (k + 1) c) then number ∷ [] else [])

  pub had : (u ≡ v → ⊥) → Goal of
  had other = grind (arith, nat_tests, has-more v c k d low, other)

  pub has : vars_rise 0 c ≡ true → v < length of → Goal (set of u (get_or of u [] ++ number ∷ []))
  has rise within = grind (arith, nat_tests, has-more v c k d low, rise-new 0 c k d rise low, get_or-set_same, get_or-set_other, append-nil)

-- one more clause
pub numbers-more : (p : ℕ → Bool) (n : ℕ) → filter p (range_with_len 0 n) ++ (if p n then n ∷ [] else []) ≡ filter p (range_with_len 0 (n + 1))
numbers-more p n = grind (arith, filter-append, range_more 0 n)

pub rises : (vars : ℕ) (c : Clause) → is_clause vars c ≡ true → vars_rise 0 c ≡ true
rises vars [] e = absurd (false≢true e)
rises vars (l ∷ c) e = (and_parts (vars_rise 0 (l ∷ c)) (list_all (λ k. nat_le (var_of k) vars) (l ∷ c)) e).0

small : (vars : ℕ) (c : Clause) → is_clause vars c ≡ true → list_all (λ l. nat_lt (var_of l) (vars + 1)) c ≡ true
small vars [] e = refl
small vars (l ∷ c) e = all-wider (λ k. nat_le (var_of k) vars) (λ k. nat_lt (var_of k) (vars + 1)) (λ k h. grind (arith, nat_tests)) (l ∷ c) (grind (arith, e))

has-none : (v size : ℕ) (c : Clause) → size ≤ v → list_all (λ l. nat_lt (var_of l) size) c ≡ true → has_var v c ≡ false
has-none v size [] high e = refl
has-none v size (l ∷ c) high e = grind (arith, nat_tests, has-none v size c high)

pub index-is : (cnf : ClauseList) → is_clause_list cnf ≡ true → (of : List (List ℕ)) (size : ℕ) → length of ≡ cnf.vars + 1 → size ≡ cnf.vars + 1
    → ((v : ℕ) → v ≤ cnf.vars → get_or of v [] ≡ filter (λ n. has_var v (get_or cnf.clauses n [])) (range_with_len 0 (length cnf.clauses))) → IsIndex cnf.clauses of size
index-is cnf valid of size long is each = record { each = λ v. by v (nat_le v cnf.vars) refl; small = λ n low. smalls n low } where
  smalls : (n : ℕ) → n < length cnf.clauses → list_all (λ l. nat_lt (var_of l) size) (get_or cnf.clauses n []) ≡ true
  smalls n low = ap (λ k. list_all (λ l. nat_lt (var_of l) k) (get_or cnf.clauses n [])) is
      ∙ small cnf.vars (get_or cnf.clauses n []) (list_all-at (is_clause cnf.vars) cnf.clauses n [] (clauses-valid cnf valid).2 low)

  by : (v : ℕ) (b : Bool) → nat_le v cnf.vars ≡ b → get_or of v [] ≡ filter (λ n. has_var v (get_or cnf.clauses n [])) (range_with_len 0 (length cnf.clauses))
  by v true e = each v (leb-true v cnf.vars e)
  by v false e =
      let high : size ≤ v = omega (arith, leb-false v cnf.vars e) in
      get_or_past of v [] (omega arith) ∙ sym (filter-never (range_with_len 0 (length cnf.clauses)))
      ∙ filter-within (λ n. false) (λ n. has_var v (get_or cnf.clauses n [])) 0 (length cnf.clauses) (λ n k. sym (has-none v size (get_or cnf.clauses n []) high (smalls n (omega arith))))
