-- What is left of clauses at a place of a forest.
use Rattle.std.proofs.Common.{◌≡◌, ℕ, Bool, true, false, not, ◌&&◌, ◌||◌, List, [], ◌∷◌, ◌++◌, map, get_or, Some, refl, ap, sym, ◌∙◌, arith}
use Rattle.std.specs.Prelude.{slice_get}
use Rattle.std.specs.List.{list_all, flat_map, AllByRecursion}
use Rattle.std.proofs.lemmas.Bool.{eqb-false, ne_eqb, or_parts}
use Rattle.std.proofs.lemmas.Bool.Decides.{nat_tests}
use Rattle.std.proofs.lemmas.List.Folds.{list_all-append}
use Rattle.std.proofs.lemmas.List.Quantifiers.{position-Some}
use Rattle.std.proofs.lemmas.Option.{slice_get-get_or}
use Rattle.state_rules.specs.Assignments.{Assignment}
use Rattle.state_rules.proofs.Bits.{pointwise-refl, pointwise-equal}
use Rattle.state_rules.proofs.Lists.{AllByRecursion-append, any-never}
use Rattle.state_rules.proofs.Members.{In, In-map, In-append_left, In-append_right, any_in}
use Rattle.clause_encoder.specs.Clauses.{Clause, ClauseList, all_hold, is_clause}
use Rattle.elimination_forests.specs.Branches.{has_true, some_passes, same_list, without}
use Rattle.elimination_forests.proofs.FirstPlaces.{found-at}
use Rattle.elimination_forests.proofs.Lists.{all-in, all-at, none-in, any-none, each-map, each-different, In-met}
use Rattle.elimination_forests.specs.Forests.{Forest, none, tree, variables, is_among, meets, is_within, is_once, fits, is_along, is_forest_of, Place, is_dead_by, next_by, followed_by, decided, part_of, part, root, number_in}
use Rattle.elimination_forests.proofs.PassedClauses.{fail_by, passes_by, passes_without, passes_or, passes_never, passes_full, none_passes, all_fail, meets-append, once_back, once_front}
use Rattle.dnnf_compiler.proofs.Conjunctions.{each_more}
use Rattle.dnnf_compiler.specs.inner.Placing.{rest_by, left_by, Spot, spots_on, IsSpot}

-- ---- a variable is assigned

clause-next : (bound : List ℕ) (v : ℕ) (a : Assignment) (clause : Clause) → is_among bound v ≡ false → not (rest_by bound a clause) ≡ (not (has_true v (a v) clause) && not (rest_by (v ∷ bound) a clause))
clause-next bound v a [] free = refl
clause-next bound v a (l ∷ clause) free = grind (arith, nat_tests, clause-next bound v a clause free)

-- What is left holds exactly if it does after the variable is assigned.
pub expand_by : (v : ℕ) (place : Place) (a : Assignment) (list : List Bool) → is_among place.bound v ≡ false → left_by place a list ≡ left_by (decided v place) a (next_by v place list (a v))
expand_by v place a list free =
    ap not ((λ j. some_passes (λ c. clause-next place.bound v a c free j) place.clauses list) ∙ sym (passes_without (λ c. not (rest_by (v ∷ place.bound) a c)) (has_true v (a v)) place.clauses list))

-- ---- a dead list does not hold

pub dead_left : (place : Place) (a : Assignment) (list : List Bool) → is_dead_by place.bound place.clauses list ≡ true → left_by place a list ≡ false
dead_left place a list e = ap not (passes_by (is_within place.bound) (λ c. not (rest_by place.bound a c)) (λ c e. grind (arith, nat_tests, any-none, all-at)) place.clauses list e)

-- ---- variables

-- what is not assigned stays so after another variable
free_next : (v : ℕ) (bound vs : List ℕ) → is_among vs v ≡ false → list_all (λ u. not (is_among bound u)) vs ≡ true → list_all (λ u. not (is_among (v ∷ bound) u)) vs ≡ true
free_next v bound vs apart e = grind (arith, nat_tests, all-in, ne_eqb, eqb-false, none-in, all-at)

-- ---- what is left holds if it does on all trees of a base

-- whether the parts of a list hold on all trees
abbrev pub trees_hold : Forest → Place → Assignment → List Bool → Bool
trees_hold none base a list = true
trees_hold (tree v below beside) base a list = left_by (part (v ∷ variables below) base) a (part_of (v ∷ variables below) base list) && trees_hold beside base a list

meets_either : (xs ys : List ℕ) (p : Clause → Bool) (cs : List Clause) (list : List Bool)
    → some_passes (λ c. meets (xs ++ ys) c && p c) cs list ≡ (some_passes p cs (without (λ c. not (meets xs c)) cs list) || some_passes (λ c. meets ys c && p c) cs list)
meets_either xs ys p [] list = refl
meets_either xs ys p (c ∷ cs) [] = refl
meets_either xs ys p (c ∷ cs) (b ∷ list) = grind (arith, meets-append xs ys c, meets_either xs ys p cs list)

trees_say : (forest : Forest) (base : Place) (a : Assignment) (list : List Bool) → trees_hold forest base a list ≡ not (some_passes (λ c. meets (variables forest) c && not (rest_by base.bound a c)) base.clauses list)
trees_say none base a list = sym (ap not ((λ j. some_passes (λ c. any-never c j && not (rest_by base.bound a c)) base.clauses list) ∙ passes_never base.clauses list))
trees_say (tree v below beside) base a list = rw (trees_say beside base a list) (grind (arith, meets_either (v ∷ variables below) (variables beside) (λ c. not (rest_by base.bound a c)) base.clauses list))

-- ---- living lists of clauses that go down along a forest

pub record IsDown (forest : Forest) (base : Place) (list : List Bool) : Type 0 where
  pub alive : is_dead_by base.bound base.clauses list ≡ false
  pub along : some_passes (λ c. not (is_along forest base.bound c)) base.clauses list ≡ false

along_within : (forest : Forest) (bound : List ℕ) (c : Clause) → is_along forest bound c ≡ true → meets (variables forest) c ≡ false → is_within bound c ≡ true
along_within none bound c e f = e
along_within (tree v below beside) bound c e f = grind (arith, nat_tests, along_within beside bound c, or_parts (meets (v ∷ variables below) c) (meets (variables beside) c) (sym (meets-append (v ∷ variables below) (variables beside) c) ∙ f))

-- A list that goes down a forest holds exactly if its parts hold on all trees.
pub down_holds : (forest : Forest) (base : Place) (a : Assignment) (list : List Bool) → IsDown forest base list → left_by base a list ≡ trees_hold forest base a list
down_holds forest base a list is = grind (
  arith,
  trees_say,
  passes_full (meets (variables forest)),
  passes_or (is_within base.bound) (λ c. not (is_along forest base.bound c)) base.clauses list,
  fail_by (λ c. is_within base.bound c || not (is_along forest base.bound c)) (λ c. not (meets (variables forest) c)) (λ c e. grind (arith, along_within forest base.bound c)) base.clauses list,
)

-- the trees of a base, or the last of them
pub record IsBase (vars : ℕ) (forest : Forest) (base : Place) : Type 0 where
  pub once : is_once (variables forest) ≡ true
  pub free : list_all (λ u. not (is_among base.bound u)) (variables forest) ≡ true
  pub fit : list_all (fits vars) (variables forest) ≡ true
  pub along : AllByRecursion (λ list. some_passes (λ c. meets (variables forest) c && not (is_along forest base.bound c)) base.clauses list ≡ false) base.lists

pub each_spot : (vars : ℕ) (forest : Forest) (base : Place) → IsBase vars forest base → AllByRecursion (IsSpot vars) (spots_on forest base)
each_spot vars none base is = tt
each_spot vars (tree v below beside) base is = grind (
  arith,
  once_front own (variables beside),
  once_back own (variables beside),
  list_all-append,
  different_part,
  each_spot vars beside base,
  each_more Along (λ list. some_passes (λ c. meets (variables beside) c && not (is_along beside base.bound c)) base.clauses list ≡ false) base.lists
      (λ list. fail_by along (λ c. meets (variables beside) c && not (is_along beside base.bound c)) (λ c f. grind (arith, meets-append own (variables beside) c)) base.clauses list),
) where
  own : List ℕ
  own = v ∷ variables below

  along : Clause → Bool
  along c = meets (variables (tree v below beside)) c && not (is_along (tree v below beside) base.bound c)

  Along : List Bool → Type 0
  Along list = some_passes along base.clauses list ≡ false

  different_part : AllByRecursion (λ list. some_passes (λ c. not (is_along below (v ∷ base.bound) c)) base.clauses list ≡ false) (part own base).lists
  different_part = each-different _ _ (each-map Along _ (part_of own base) (λ list e. passes_without (λ c. not (is_along below (v ∷ base.bound) c)) (λ c. not (meets own c)) base.clauses list
      ∙ fail_by along (λ c. not (not (meets own c)) && not (is_along below (v ∷ base.bound) c)) (λ c f. grind (arith, f, meets-append own (variables beside) c)) base.clauses list e) base.lists is.along)

pub down_base : (vars : ℕ) (forest : Forest) (base : Place) → is_once (variables forest) ≡ true → list_all (λ u. not (is_among base.bound u)) (variables forest) ≡ true → list_all (fits vars) (variables forest) ≡ true
    → AllByRecursion (IsDown forest base) base.lists → IsBase vars forest base
down_base vars forest base once free fit down =
    grind (arith, each_more (IsDown forest base) _ base.lists (λ list is. fail_by (λ c. not (is_along forest base.bound c)) (λ c. meets (variables forest) c && not (is_along forest base.bound c)) (λ c e. grind arith) base.clauses list is.along) down)

-- ---- after a variable is assigned

each_flat : (P Q : List Bool → Type 0) (f : List Bool → List (List Bool)) → ((x : List Bool) → P x → AllByRecursion Q (f x)) → (xs : List (List Bool)) → AllByRecursion P xs → AllByRecursion Q (flat_map f xs)
each_flat P Q f h [] each = tt
each_flat P Q f h (x ∷ xs) each = AllByRecursion-append Q (f x) (flat_map f xs) (h x each.0) (each_flat P Q f h xs each.1)

down_next : (spot : Spot) (list : List Bool) → some_passes (λ c. not (is_along spot.below (spot.v ∷ spot.place.bound) c)) spot.place.clauses list ≡ false → (bit : Bool)
    → AllByRecursion (IsDown spot.below (decided spot.v spot.place)) (followed_by spot.v spot.place list bit)
down_next spot list e bit = grind (
  arith,
  passes_without (λ c. not (is_along spot.below (spot.v ∷ spot.place.bound) c)) (has_true spot.v bit),
  fail_by (λ c. not (is_along spot.below (spot.v ∷ spot.place.bound) c)) (λ c. not (has_true spot.v bit c) && not (is_along spot.below (spot.v ∷ spot.place.bound) c)),
)

pub each_down : (vars : ℕ) (spot : Spot) → IsSpot vars spot → AllByRecursion (IsDown spot.below (decided spot.v spot.place)) (decided spot.v spot.place).lists
each_down vars spot is = each-different (IsDown spot.below (decided spot.v spot.place)) _ (each_flat _ _ _ (λ list e. grind (arith, AllByRecursion-append, down_next spot list e)) spot.place.lists is.along)

pub below_base : (vars : ℕ) (spot : Spot) → IsSpot vars spot → IsBase vars spot.below (decided spot.v spot.place)
below_base vars spot is = grind (arith, nat_tests, down_base vars spot.below (decided spot.v spot.place), free_next spot.v spot.place.bound (variables spot.below), each_down vars spot is)

-- ---- at the root all clauses are left

pub root_holds : (clauses : List Clause) (a : Assignment) → left_by (root clauses) a (map (λ c. true) clauses) ≡ all_hold a clauses
root_holds [] a = refl
root_holds (c ∷ clauses) a = grind (arith, nat_tests, root_holds clauses a)

pub root_down : (cnf : ClauseList) (forest : Forest) → is_forest_of forest cnf ≡ true → list_all (is_clause cnf.vars) cnf.clauses ≡ true → IsDown forest (root cnf.clauses) (map (λ c. true) cnf.clauses)
root_down cnf forest e valid = grind (arith, nat_tests, none_passes (is_within []) cnf.clauses (map (λ c. true) cnf.clauses), all-at (is_clause cnf.vars), all_fail (is_along forest []) cnf.clauses (map (λ c. true) cnf.clauses))

pub root_base : (cnf : ClauseList) (forest : Forest) → is_forest_of forest cnf ≡ true → list_all (is_clause cnf.vars) cnf.clauses ≡ true → IsBase cnf.vars forest (root cnf.clauses)
root_base cnf forest e valid = grind (arith, nat_tests, down_base cnf.vars forest (root cnf.clauses), all-in (λ u. not (is_among [] u)) (variables forest) (λ u m. refl), root_down cnf forest e valid)

-- ---- the number of a list

pub number_at : (lists : List (List Bool)) (x : List Bool) → In x lists → slice_get lists (number_in lists x) ≡ Some x
number_at lists x there = grind (arith, position-Some (λ other. same_list other x) lists (number_in lists x) [], found-at (λ other. same_list other x) lists, any_in (λ other. same_list other x) x lists there, pointwise-refl x, slice_get-get_or lists (number_in lists x) [], pointwise-equal (get_or lists (number_in lists x) []) x)

pub part_in : (vs : List ℕ) (base : Place) (list : List Bool) → In list base.lists → In (part_of vs base list) (part vs base).lists
part_in vs base list there = In-met same_list pointwise-equal (part_of vs base list) (map (part_of vs base) base.lists) (In-map (part_of vs base) list base.lists there)

In-flat : (f : List Bool → List (List Bool)) (x y : List Bool) (xs : List (List Bool)) → In x xs → In y (f x) → In y (flat_map f xs)
In-flat f x y [] there given = absurd there
In-flat f x y (z ∷ xs) there given = grind (arith, In-append_left y (f z) (flat_map f xs), In-append_right y (f z) (flat_map f xs), In-flat f x y xs)

-- what a bit leaves is on the base after the bit
pub next_in : (v : ℕ) (place : Place) (list : List Bool) (bit : Bool) → In list place.lists → is_dead_by (v ∷ place.bound) place.clauses (next_by v place list bit) ≡ false
    → In (next_by v place list bit) (decided v place).lists
next_in v place list false there alive = In-met same_list pointwise-equal _ _ (In-flat (λ l. followed_by v place l false ++ followed_by v place l true) list (next_by v place list false) place.lists there (grind (arith, alive)))
next_in v place list true there alive = In-met same_list pointwise-equal _ _ (In-flat (λ l. followed_by v place l false ++ followed_by v place l true) list (next_by v place list true) place.lists there (grind (arith, alive, In-append_right (next_by v place list true))))
