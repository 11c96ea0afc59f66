-- Clauses with their variables replaced are true exactly if the given ones are.
use Rattle.std.proofs.Common.{◌≡◌, ℕ, zero, suc, ◌<◌, ◌≤◌, true, ◌&&◌, ◌||◌, List, [], ◌∷◌, map, length, get_or, ℤ, refl, ap, ◌∙◌, arith}
use Rattle.std.specs.Prelude.{nat_le}
use Rattle.std.specs.List.{All, list_all}
use Rattle.std.proofs.lemmas.Bool.{and_parts}
use Rattle.std.proofs.lemmas.List.{length-map}
use Rattle.state_rules.specs.Bits.{same_bit}
use Rattle.state_rules.specs.Assignments.{Assignment}
use Rattle.state_rules.proofs.Lists.{list_all-at}
use Rattle.clause_encoder.specs.declared.limits.TheConstants.{CLAUSE_LIMIT}
use Rattle.clause_encoder.specs.Clauses.{Clause, ClauseList, var_of, is_positive, is_true_clause, all_hold, vars_rise, is_clause, is_clause_list}
use Rattle.clause_encoder.specs.Encoding.{tidy}
use Rattle.clause_encoder.specs.Replacing.{variable_for, literal_for}
use Rattle.clause_encoder.proofs.Literals.{AllIn, AllRaw, all_hold-tidy, are_clauses-tidy, length-tidy}

-- ---- the literals of a clause

AllIn-from : (vars below : ℕ) (c : Clause) → vars_rise below c ≡ true → list_all (λ k. nat_le (var_of k) vars) c ≡ true → AllIn vars c
AllIn-from vars below [] h k = tt
AllIn-from vars below (l ∷ c) h k = grind (arith, AllIn-from vars (var_of l) c)

-- a clause has a literal, and each has a variable from 1 to `vars`
pub raw_from : (vars : ℕ) (c : Clause) → is_clause vars c ≡ true → (1 ≤ length c) × AllIn vars c
raw_from vars c h = grind (arith, AllIn-from)

AllIn-at : (vars : ℕ) (c : Clause) (k : ℕ) (d : ℤ) → AllIn vars c → k < length c → (1 ≤ var_of (get_or c k d)) × (var_of (get_or c k d) ≤ vars)
AllIn-at vars [] k d h lt = absurd (omega arith)
AllIn-at vars (l ∷ c) zero d h lt = (h.0, h.1)
AllIn-at vars (l ∷ c) (suc k) d h lt = AllIn-at vars c k d h.2 (omega arith)

pub clause-some : (vars : ℕ) (c : Clause) → is_clause vars c ≡ true → All (λ l. 1 ≤ var_of l) c
clause-some vars c h k d lt = (AllIn-at vars c k d (raw_from vars c h).1 lt).0

pub clause-within : (vars : ℕ) (c : Clause) → is_clause vars c ≡ true → All (λ l. var_of l ≤ vars) c
clause-within vars c h k d lt = (AllIn-at vars c k d (raw_from vars c h).1 lt).1

-- ---- replaced

module _ (variables : List ℕ) (vars : ℕ) (some : All (λ v. 1 ≤ v) variables) (within : All (λ v. v ≤ vars) variables) where
  AllIn-replaced : (c : Clause) → AllIn (length variables) c → AllIn vars (map (literal_for variables) c)
  AllIn-replaced [] h = tt
  AllIn-replaced (l ∷ c) h = grind (arith, AllIn-replaced c h.2)

  AllRaw-replaced : (cs : List Clause) → list_all (is_clause (length variables)) cs ≡ true → AllRaw vars (map (map (literal_for variables)) cs)
  AllRaw-replaced [] h = tt
  AllRaw-replaced (c ∷ cs) h = grind (arith, and_parts, raw_from, AllIn-replaced, AllRaw-replaced cs)

  true-replaced : (a : Assignment) (c : Clause) → AllIn (length variables) c → is_true_clause a (map (literal_for variables) c) ≡ is_true_clause (λ v. a (variable_for variables v)) c
  true-replaced a [] h = refl
  true-replaced a (l ∷ c) h = grind (arith, true-replaced a c h.2)

  all-replaced : (a : Assignment) (cs : List Clause) → list_all (is_clause (length variables)) cs ≡ true
      → all_hold a (map (map (literal_for variables)) cs) ≡ all_hold (λ v. a (variable_for variables v)) cs
  all-replaced a [] h = refl
  all-replaced a (c ∷ cs) h = grind (arith, true-replaced, raw_from, all-replaced a cs)

  pub replaced-truth : (a : Assignment) (cs : List Clause) → list_all (is_clause (length variables)) cs ≡ true
      → all_hold a (tidy (map (map (literal_for variables)) cs)) ≡ all_hold (λ v. a (variable_for variables v)) cs
  replaced-truth a cs h = all_hold-tidy a vars (map (map (literal_for variables)) cs) (AllRaw-replaced cs h) ∙ all-replaced a cs h

  pub replaced-clauses : (cs : List Clause) → list_all (is_clause (length variables)) cs ≡ true → list_all (is_clause vars) (tidy (map (map (literal_for variables)) cs)) ≡ true
  replaced-clauses cs h = are_clauses-tidy vars (map (map (literal_for variables)) cs) (AllRaw-replaced cs h)

pub replaced-few : (variables : List ℕ) (cs : List Clause) → length (tidy (map (map (literal_for variables)) cs)) ≤ length cs
replaced-few variables cs = omega (arith, length-tidy (map (map (literal_for variables)) cs), length-map cs (map (literal_for variables)))

-- assignments with the same bits
pub all_hold-same : (vars : ℕ) (a b : Assignment) (cs : List Clause) → list_all (is_clause vars) cs ≡ true
    → ((v : ℕ) → 1 ≤ v → v ≤ vars → a v ≡ b v) → all_hold a cs ≡ all_hold b cs
all_hold-same vars a b [] h same = refl
all_hold-same vars a b (c ∷ cs) h same =
    let two = and_parts (is_clause vars c) (list_all (is_clause vars) cs) h in
    λ i. each c (raw_from vars c two.0).1 i && all_hold-same vars a b cs two.1 same i
  where
    each : (c : Clause) → AllIn vars c → is_true_clause a c ≡ is_true_clause b c
    each [] h = refl
    each (l ∷ c) h = λ i. same_bit (is_positive l) (same (var_of l) h.0 h.1 i) || each c h.2 i

-- ---- a clause list

pub record IsList (cnf : ClauseList) : Type 0 where
  pub few : length cnf.clauses ≤ CLAUSE_LIMIT
  pub each : list_all (is_clause cnf.vars) cnf.clauses ≡ true

pub list_from : (cnf : ClauseList) → is_clause_list cnf ≡ true → IsList cnf
list_from cnf h = grind arith

pub clause-at : (cnf : ClauseList) (at : ℕ) (clause : Clause) → is_clause_list cnf ≡ true → at < length cnf.clauses → clause ≡ get_or cnf.clauses at [] → is_clause cnf.vars clause ≡ true
clause-at cnf at clause h lt is = ap (is_clause cnf.vars) is ∙ list_all-at (is_clause cnf.vars) cnf.clauses at [] (list_from cnf h).each lt
