-- The order of the variables, as it is found.
use Rattle.std.proofs.Common.{◌≡◌, ℕ, ◌+◌, ◌<◌, ◌≤◌, true, false, List, [], ◌∷◌, ◌++◌, map, length, refl, sym, ◌∙◌, arith}
use Rattle.std.specs.Prelude.{nat_eq, nat_le, position}
use Rattle.std.specs.List.{list_any, list_all, flat_map, IsDistinct, AllByRecursion}
use Rattle.std.specs.Option.{unwrap_or}
use Rattle.std.proofs.lemmas.Bool.{false≢true}
use Rattle.std.proofs.lemmas.List.{append-nil}
use Rattle.std.proofs.lemmas.List.Folds.{list_any-append}
use Rattle.std.proofs.lemmas.Map.Steps.{length-le_from_distinct_below}
use Rattle.indexmap.specs.IndexSet.{insert_key}
use Rattle.clause_encoder.specs.Clauses.{Clause, ClauseList, var_of, vars_rise, is_clause, is_clause_list}
use Rattle.elimination_forests.specs.Branches.{first_met, same_variable, order, place}
use Rattle.elimination_forests.proofs.FirstPlaces.{found-at}
use Rattle.elimination_forests.proofs.MetOrder.{among, among-first_met, first_met-push, clauses-valid}
use Rattle.elimination_forests.proofs.VariableOrder.{AllOnce, first_met-once}

-- ---- the order as it is found

pub met : (old vs : List ℕ) (v : ℕ) → old ≡ first_met same_variable vs → insert_key nat_eq old v ≡ first_met same_variable (vs ++ v ∷ [])
met old vs v e = grind (arith, among-first_met, first_met-push, append-nil)

place-absent : (vs : List ℕ) (v : ℕ) → among vs v ≡ false → place vs v ≡ length vs
place-absent [] v e = refl
place-absent (u ∷ vs) v e = grind (arith, place-absent vs v)

pub place_found : (vs : List ℕ) (v : ℕ) → unwrap_or (position (nat_eq v) vs) (length vs) ≡ place vs v
place_found vs v = grind (arith, found-at, place-absent)

-- ---- no more variables than a clause list may have

clause-within : (vars below : ℕ) (c : Clause) (q : ℕ) → vars_rise below c ≡ true → list_all (λ k. nat_le (var_of k) vars) c ≡ true → among (map var_of c) q ≡ true → (below < q) × (q ≤ vars)
clause-within vars below [] q e f there = absurd (false≢true there)
clause-within vars below (l ∷ c) q e f there = grind (arith, clause-within vars (var_of l) c q)

all-within : (vars : ℕ) (cs : List Clause) (q : ℕ) → list_all (is_clause vars) cs ≡ true → among (flat_map (map var_of) cs) q ≡ true → (0 < q) × (q ≤ vars)
all-within vars [] q e there = absurd (false≢true there)
all-within vars (c ∷ cs) q e there = grind (arith, list_any-append, clause-within, all-within vars cs q)

each-among : (P : ℕ → Type 0) (vs : List ℕ) → ((q : ℕ) → among vs q ≡ true → P q) → AllByRecursion P vs
each-among P [] h = tt
each-among P (v ∷ vs) h = grind (arith, each-among P vs)

distinct : (vs : List ℕ) → AllOnce vs → IsDistinct nat_eq vs
unfolding IsDistinct
distinct [] h = tt
distinct (v ∷ vs) h = grind (arith, each-among, distinct vs h.1)

pub order-few : (cnf : ClauseList) → is_clause_list cnf ≡ true → length (order cnf.clauses) ≤ cnf.vars
unfolding IsDistinct
order-few cnf e = omega (
  arith,
  length-le_from_distinct_below (0 ∷ order cnf.clauses) (cnf.vars + 1) (each-among (λ q. nat_eq 0 q ≡ false) (order cnf.clauses) (λ q there. grind (arith, bounds q there)), grind (arith, distinct, first_met-once))
      (λ q there. let low : list_any (nat_eq q) (order cnf.clauses) ≡ true → q ≤ cnf.vars = λ t. (bounds q (grind arith)).1 in grind (arith, low)),
) where
  bounds : (q : ℕ) → among (order cnf.clauses) q ≡ true → (0 < q) × (q ≤ cnf.vars)
  bounds q there = all-within cnf.vars cnf.clauses q (clauses-valid cnf e).2 (sym (among-first_met (flat_map (map var_of) cnf.clauses) q) ∙ there)
