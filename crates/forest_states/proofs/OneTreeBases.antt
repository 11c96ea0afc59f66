-- A base that goes to one tree as a whole.
use Rattle.std.proofs.Common.{◌≡◌, ℕ, zero, suc, ◌+◌, Bool, true, false, not, ◌&&◌, ◌||◌, cond, List, [], ◌∷◌, map, length, get_or, refl, ap, sym, ◌∙◌, subst, arith}
use Rattle.std.specs.Prelude.{◌==◌}
use Rattle.std.specs.List.{filter, list_any, list_all, position_or_len, range_with_len, AllByRecursion}
use Rattle.std.proofs.lemmas.Bool.{and_parts, eqb-true}
use Rattle.std.proofs.lemmas.Bool.Decides.{nat_tests}
use Rattle.state_rules.proofs.Bits.{pointwise-refl}
use Rattle.state_rules.proofs.Lists.{filter-all}
use Rattle.clause_encoder.specs.Clauses.{Clause, var_of}
use Rattle.elimination_forests.specs.Branches.{same_list, different}
use Rattle.elimination_forests.proofs.Lists.{each-filter}
use Rattle.forest_states.specs.inner.BitLists.{is_same}
use Rattle.forest_states.specs.inner.Descents.{picked, part_states, is_in_tree, goes_to, clause_at, Stand, row_at, column_at, stand_part}
use Rattle.forest_states.proofs.Mapped.{mapped-agree, mapped-twice}

-- ---- different lists

abbrev AreDistinct : List (List Bool) → Type 0
AreDistinct [] = Unit {0}
AreDistinct (l ∷ ls) = AllByRecursion (λ s. same_list l s ≡ false) ls × AreDistinct ls

distinct-filter : (p : List Bool → Bool) (ls : List (List Bool)) → AreDistinct ls → AreDistinct (filter p ls)
distinct-filter p [] distinct = tt
distinct-filter p (l ∷ ls) distinct = by (p l) (distinct-filter p ls distinct.1) where
  by : (b : Bool) → AreDistinct (filter p ls) → AreDistinct (cond b (l ∷ filter p ls) (filter p ls))
  by true rest = (each-filter (λ s. same_list l s ≡ false) (λ s. same_list l s ≡ false) p (λ s h _. h) ls distinct.0, rest)
  by false rest = rest

others-differ : (l : List Bool) (ls : List (List Bool)) → AllByRecursion (λ s. same_list l s ≡ false) (filter (λ s. not (same_list l s)) ls)
others-differ l [] = tt
others-differ l (m ∷ ls) = grind (arith, nat_tests, others-differ l ls)

distinct-different : (ls : List (List Bool)) → AreDistinct (different ls)
distinct-different [] = tt
distinct-different (l ∷ ls) = (others-differ l (different ls), distinct-filter (λ s. not (same_list l s)) (different ls) (distinct-different ls))

next-range : (a n : ℕ) → map (λ k. 1 + k) (range_with_len a n) ≡ range_with_len (a + 1) n
next-range a zero = refl
next-range a (suc n) = let more : 1 + a ≡ a + 1 = omega arith in λ j. more j ∷ next-range (a + 1) n j

item-range : (k a n d : ℕ) → d ≡ a + n → get_or (range_with_len a k) n d ≡ d
item-range zero a n d e = refl
item-range (suc k) a zero d e = omega (arith, e)
item-range (suc k) a (suc n) d e = item-range k (a + 1) n d (omega (arith, e))

own-places : (ls : List (List Bool)) → AreDistinct ls → map (λ s. position_or_len (is_same s) ls) ls ≡ range_with_len 0 (length ls)
own-places [] distinct = refl
own-places (l ∷ ls) distinct = let rest = own-places ls distinct.1 in λ j. cond (not (pointwise-refl l j)) (1 + position_or_len (is_same l) ls) 0 ∷ later rest j where
  later : map (λ s. position_or_len (is_same s) ls) ls ≡ range_with_len 0 (length ls) → map (λ s. position_or_len (is_same s) (l ∷ ls)) ls ≡ range_with_len (0 + 1) (length ls)
  later rest =
      mapped-agree (λ s. same_list l s ≡ false) _ (λ s. 1 + position_or_len (is_same s) ls) (λ s e. ap (λ b. cond (not b) (1 + position_or_len (is_same s) ls) 0) e) ls distinct.0
      ∙ sym (mapped-twice (λ k. 1 + k) (λ s. position_or_len (is_same s) ls) ls)
      ∙ ap (map (λ k. 1 + k)) rest ∙ next-range 0 (length ls)

-- ---- all of each list is picked

picked-whole : (ns : List ℕ) (state : List Bool) → length state ≡ length ns → picked (map (λ n. true) ns) state ≡ state
picked-whole [] [] long = refl
picked-whole [] (b ∷ state) long = absurd (omega (arith, long))
picked-whole (n ∷ ns) state long = grind (arith, picked-whole ns)

all-picked : (ns : List ℕ) (states : List (List Bool)) → list_all (λ s. length s == length ns) states ≡ true → map (picked (map (λ n. true) ns)) states ≡ states
all-picked ns [] long = refl
all-picked ns (s ∷ states) long = grind (arith, nat_tests, picked-whole, all-picked ns states)

-- ---- the place of the tree

module _ (clauses : List Clause) (trees : ℕ) (seen : List Bool) (numbers : List ℕ) (s : Stand) (once : different s.states ≡ s.states)
    (whole : ((trees == 1) && list_all (λ x. length x == length s.active) s.states) ≡ true) where
  abbrev goes : ℕ → Bool
  goes = goes_to clauses trees seen numbers 0

  parts : ((trees == 1) ≡ true) × (list_all (λ x. length x == length s.active) s.states ≡ true)
  parts = and_parts (trees == 1) (list_all (λ x. length x == length s.active) s.states) whole

  one : trees ≡ 1
  one = eqb-true trees 1 parts.0

  all : goes_to clauses trees seen numbers 0 ≡ (λ n. true)
  all = λ j n. parts.0 j || list_any (λ l. is_in_tree seen numbers 0 (var_of l)) (clause_at clauses n)

  picks : map (picked (map goes s.active)) s.states ≡ s.states
  picks = ap (λ g. map (picked (map g s.active)) s.states) all ∙ all-picked s.active s.states parts.1

  states-same : part_states (map goes s.active) s.states ≡ s.states
  states-same = ap different picks ∙ once

  pub whole-stands : map (λ j. stand_part clauses trees seen numbers j s) (range_with_len 0 trees) ≡ s ∷ []
  whole-stands = grind (arith, nat_tests, one, all, filter-all, states-same)

  whole-columns : map (λ j. column_at clauses trees seen numbers j s) (range_with_len 0 trees) ≡ range_with_len 0 (length s.states) ∷ []
  whole-columns =
      ap (λ n. map (λ j. column_at clauses trees seen numbers j s) (range_with_len 0 n)) one
      ∙ ap (λ ns. ns ∷ []) ((λ i. map (λ x. position_or_len (is_same (picked (map goes s.active) x)) (states-same i)) s.states)
      ∙ sym (mapped-twice (λ x. position_or_len (is_same x) s.states) (picked (map goes s.active)) s.states)
      ∙ ap (map (λ x. position_or_len (is_same x) s.states)) picks
      ∙ own-places s.states (subst AreDistinct once (distinct-different s.states)))

  pub whole-row : row_at (map (λ j. column_at clauses trees seen numbers j s) (range_with_len 0 trees)) ≡ (λ n. n ∷ [])
  whole-row = ap row_at whole-columns ∙ (λ j n. item-range (length s.states) 0 n n (omega arith) j ∷ [])
