-- Whether the last level has a list: it does if some list of the level before leads on.
use Rattle.std.proofs.Common.{◌≡◌, ℕ, zero, suc, ◌+◌, ◌<◌, ◌≤◌, Bool, true, false, ◌||◌, List, [], ◌∷◌, ◌++◌, map, length, take, drop, get_or, refl, ap, sym, ◌∙◌, arith}
use Rattle.std.specs.Prelude.{is_some, if◌then◌else◌}
use Rattle.std.specs.List.{list_any, flat_map, range_with_len}
use Rattle.state_rules.proofs.Bits.{pointwise-equal}
use Rattle.clause_encoder.specs.Clauses.{ClauseList, is_clause_list}
use Rattle.elimination_forests.specs.Branches.{order, living, sum_of, same_list, same_variable}
use Rattle.elimination_forests.specs.declared.forks.Forks.{Forks}
use Rattle.elimination_forests.specs.declared.steps.Weight.TheVariants.{Words}
use Rattle.elimination_forests.specs.Forests.{Forest, Place, root, chain, followed_by, decided, way_by, forks_at, forest_sum, forks_on, has_way, leads_on}
use Rattle.elimination_forests.specs.Levels.{level_forks}
use Rattle.elimination_forests.proofs.ListCounts.{first-living}
use Rattle.elimination_forests.proofs.FirstPlaces.{place-low}
use Rattle.elimination_forests.proofs.Lists.{any-met}
use Rattle.elimination_forests.proofs.Chains.{at, next-at, forks-level, chain-sum, chain-forks}
use Rattle.elimination_forests.proofs.LastLevels.{last-size, last-one}

-- the last of several places
leads-last : (f : ℕ → Forks) (a n : ℕ) → leads_on (map f (range_with_len a (suc n))) ≡ has_way (f (a + n))
leads-last f a zero = let e : a ≡ a + 0 = omega arith in ap (λ k. has_way (f k)) e
leads-last f a (suc n) = grind (arith, leads-last f (a + 1) n)

abbrev is_filled : List (List Bool) → Bool
is_filled lists = list_any (λ list. true) lists

-- ---- a place that leads on

module _ (v : ℕ) (below : Forest) (place : Place) where
  abbrev follow : List Bool → List (List Bool)
  follow list = followed_by v place list false ++ followed_by v place list true

  some-way : (lists : List (List Bool)) → (list_any is_some (map (way_by v below place false) lists) || list_any is_some (map (way_by v below place true) lists)) ≡ is_filled (flat_map follow lists)
  some-way [] = refl
  some-way (list ∷ lists) = grind (arith, some-way lists)

  has-way : has_way (forks_at v below place) ≡ is_filled (decided v place).lists
  has-way = some-way place.lists ∙ sym (any-met same_list pointwise-equal (λ list. true) (flat_map follow place.lists))

-- ---- the last level

one-or-none : (lists : List (List Bool)) → length lists ≤ 1 → length lists ≡ (if is_filled lists then 1 else 0)
one-or-none [] few = refl
one-or-none (x ∷ []) few = refl
one-or-none (x ∷ y ∷ lists) few = absurd (omega arith)

last-filled : (cnf : ClauseList) → is_clause_list cnf ≡ true → (n : ℕ) → n ≡ length (order cnf.clauses)
    → is_filled (living cnf.clauses n) ≡ leads_on (map (level_forks cnf.clauses) (range_with_len 0 n))
last-filled cnf valid zero e = ap is_filled (first-living cnf valid)
last-filled cnf valid (suc n) e =
    let vs = order cnf.clauses in
    let low : n < length (order cnf.clauses) = omega (arith, e) in
    let first = λ (v : ℕ). sym (place-low (same_variable v) n (order cnf.clauses) (omega (arith, e))) in
    let next : suc n ≡ n + 1 = omega arith in
    let same : n ≡ 0 + n = omega arith in
    grind (arith, has-way (get_or vs n 0) (chain (drop (n + 1) vs)) (at cnf.clauses n (take n vs)), next-at cnf.clauses n (take n vs) low first, forks-level cnf.clauses n (take n vs) low first, leads-last (level_forks cnf.clauses) 0 n)

pub chain-last : (cnf : ClauseList) → is_clause_list cnf ≡ true
    → forest_sum Words (chain (order cnf.clauses)) cnf.clauses + (if leads_on (forks_on (chain (order cnf.clauses)) (root cnf.clauses)) then 1 else 0) ≡ 1 + sum_of cnf.clauses
chain-last cnf valid = grind (arith, last-filled, chain-forks, one-or-none, last-one, last-size, chain-sum)
