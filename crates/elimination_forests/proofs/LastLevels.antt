-- At the last level of an order all variables are assigned: it has one living list, or none if no bits make all clauses true.
use Rattle.std.proofs.Common.{◌≡◌, ℕ, ◌*◌, ◌<◌, ◌≤◌, inl, inr, Bool, true, false, not, List, [], ◌∷◌, map, length, refl, ap, sym, ◌∙◌, arith}
use Rattle.std.specs.List.{list_all, filter}
use Rattle.std.proofs.lemmas.Bool.{both_ways, false≢true, not-true}
use Rattle.std.proofs.lemmas.Bool.Decides.{nat_tests}
use Rattle.std.proofs.lemmas.List.{length-map}
use Rattle.state_rules.specs.Bits.{same_bit, lists_of_bits}
use Rattle.state_rules.specs.Assignments.{Assignment}
use Rattle.state_rules.proofs.Bits.{pointwise-refl, pointwise-equal}
use Rattle.state_rules.proofs.Lists.{filter-never}
use Rattle.state_rules.proofs.Members.{In, In-filter, any_from, any_in, empty-none}
use Rattle.clause_encoder.specs.Clauses.{Clause, ClauseList, var_of, is_positive, is_true_clause, all_hold, is_clause_list}
use Rattle.elimination_forests.specs.Branches.{order, has_true, is_left, left, is_covered, is_active, some_passes, same_list, different, living, size, weight, sum_of}
use Rattle.elimination_forests.proofs.LevelSteps.{is_alive, living_are_living, living-in}
use Rattle.elimination_forests.proofs.Lists.{all-at, In-met, met-In}
use Rattle.elimination_forests.specs.declared.steps.Weight.TheVariants.{Words}
use Rattle.elimination_forests.specs.Forests.{is_among, is_within, forest_sum, chain}
use Rattle.elimination_forests.proofs.Chains.{covered-last, order-within, filter-within, chain-sum}

-- ---- no more than one list

none-left : (t : Clause → Bool) (cs : List Clause) (list : List Bool) → ((c : Clause) → In c cs → t c ≡ true) → length list ≡ length cs → some_passes t cs list ≡ false → list ≡ map (λ c. false) cs
none-left t [] [] all long e = refl
none-left t [] (b ∷ list) all long e = absurd (omega arith)
none-left t (c ∷ cs) [] all long e = absurd (omega arith)
none-left t (c ∷ cs) (b ∷ list) all long e = grind (arith, all c (inl refl), none-left t cs list (λ d m. all d (inr m)))

one-different : (z : List Bool) (xs : List (List Bool)) → ((x : List Bool) → In x xs → x ≡ z) → length (different xs) ≤ 1
one-different z [] all = omega arith
one-different z (x ∷ xs) all = omega (
  arith,
  ap length (empty-none (filter (λ y. not (same_list x y)) (different xs)) (λ y m.
      let found = In-filter (λ y. not (same_list x y)) y (different xs) m in
      both_ways (same_list x y) (not-true (same_list x y) found.1)
      (ap (same_list x) (all y (inr (met-In same_list pointwise-equal y xs found.0)) ∙ sym (all x (inl refl))) ∙ pointwise-refl x))),
)

module _ (clauses : List Clause) where
  abbrev its_order : List ℕ
  its_order = order clauses

  pub last-size : size clauses (length its_order) ≡ 1
  last-size = grind (arith, filter-within clauses (is_active its_order (length its_order)), covered-last its_order, filter-never clauses)

  -- the only living list of the last level, if there is one, has no clause
  pub last-one : length (living clauses (length its_order)) ≤ 1
  last-one =
      let lists = map (left clauses) (lists_of_bits (length its_order)) in
      one-different (map (λ c. false) clauses) (filter (is_alive clauses (length its_order)) lists) (λ list m.
      let is = living_are_living clauses (length its_order) list (In-met same_list pointwise-equal list (filter (is_alive clauses (length its_order)) lists) m) in
      none-left (is_covered its_order (length its_order)) clauses list (λ c n. covered-last its_order c ∙ all-at (is_within its_order) c clauses (order-within clauses) n) (ap length is.left ∙ length-map clauses _) is.alive)

  pub last-few : weight clauses (length its_order) ≤ 1
  last-few = omega (arith, ap (λ n. length (living clauses (length its_order)) * n) last-size, last-one)

-- ---- at least one, if some bits make all clauses true

module _ (a : Assignment) where
  left-gone : (vs : List ℕ) (c : Clause) (v : ℕ) → is_among vs v ≡ true → has_true v (a v) c ≡ true → is_left vs (map a vs) c ≡ false
  left-gone [] c v e f = absurd (false≢true e)
  left-gone (u ∷ vs) c v e f = grind (arith, nat_tests, left-gone vs c v)

  -- a true clause is not left: its variable's bit makes a literal of it true
  gone : (vs : List ℕ) (c : Clause) → is_within vs c ≡ true → is_true_clause a c ≡ true → is_left vs (map a vs) c ≡ false
  gone vs c within holds =
      let found = any_from (λ l. same_bit (is_positive l) (a (var_of l))) c holds in
      let v = var_of found.item in
      grind (arith, left-gone, all-at, any_in)

  alive : (vs : List ℕ) (t : Clause → Bool) (cs : List Clause) → list_all (is_within vs) cs ≡ true → list_all (is_true_clause a) cs ≡ true → some_passes t cs (map (is_left vs (map a vs)) cs) ≡ false
  alive vs t [] e f = refl
  alive vs t (c ∷ cs) e f = grind (arith, gone vs c, alive vs t cs)

some-there : (x : List Bool) (xs : List (List Bool)) → In x xs → 0 < length xs
some-there x [] m = absurd m
some-there x (y ∷ xs) m = omega arith

pub last-some : (clauses : List Clause) (a : Assignment) → all_hold a clauses ≡ true → 1 ≤ weight clauses (length (order clauses))
last-some clauses a e = grind (arith, living-in clauses (length (order clauses)) (left clauses (map a (order clauses))), length-map (order clauses) a, alive a (order clauses) (is_covered (order clauses) (length (order clauses))) clauses (order-within clauses) e, order-within clauses, some-there (left clauses (map a (order clauses))) (living clauses (length (order clauses))), last-size clauses)

pub chain-whole : (cnf : ClauseList) (a : Assignment) → is_clause_list cnf ≡ true → all_hold a cnf.clauses ≡ true → forest_sum Words (chain (order cnf.clauses)) cnf.clauses ≡ sum_of cnf.clauses
chain-whole cnf a valid e = omega (arith, last-few cnf.clauses, last-some cnf.clauses a e, chain-sum cnf valid)
