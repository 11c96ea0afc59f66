-- Sums of weights.
use Rattle.std.proofs.Common.{◌≡◌, ℕ, zero, suc, ◌+◌, ◌-◌, ◌*◌, ◌<◌, ◌≤◌, Bool, true, false, if◌then◌else◌, List, [], ◌∷◌, ◌++◌, length, get_or, set, take, ℤ, pos, refl, ap, ◌∙◌, arith}
use Rattle.std.specs.Prelude.{nat_le}
use Rattle.std.proofs.lemmas.Bool.Decides.{nat_tests}
use Rattle.std.proofs.lemmas.List.{length-append}
use Rattle.state_rules.specs.Bits.{same_bit}
use Rattle.state_rules.specs.Assignments.{Assignment}
use Rattle.clause_search.specs.declared.weighted.Weighted.{Weighted}
use Rattle.clause_search.specs.Searching.{Rules, holds, false_weight, respects, keeps, priced}
use Rattle.clause_search.proofs.Defined.{respects_at, respects_less}
use Rattle.clause_answers.specs.inner.Weighing.{unit_if_false, spread, Grown}

-- a weight of 0 more
pub spread-pad : (a : Assignment) (members : List (List Weighted)) (limits weights : List ℕ) → spread a members limits (weights ++ 0 ∷ []) ≡ spread a members limits weights
spread-pad a [] limits weights = refl
spread-pad a (m ∷ members) [] weights = refl
spread-pad a (m ∷ members) (k ∷ limits) [] = none members limits
  where
    none : (members : List (List Weighted)) (limits : List ℕ) → 0 * (false_weight a m - k) + spread a members limits [] ≡ 0
    none [] limits = omega arith
    none (m ∷ members) [] = omega arith
    none (m ∷ members) (k ∷ limits) = omega arith
spread-pad a (m ∷ members) (k ∷ limits) (w ∷ weights) = ap (λ s. w * (false_weight a m - k) + s) (spread-pad a members limits weights)

pub ruleset pad_steps = (spread-pad)

-- a definition more, without a weight
pub spread-grown : (a : Assignment) (members : List (List Weighted)) (limits weights : List ℕ) (m : List Weighted) (k : ℕ) → length limits ≡ length members → length weights ≤ length members
    → spread a (members ++ m ∷ []) (limits ++ k ∷ []) weights ≡ spread a members limits weights
spread-grown a [] [] [] m k e h = refl
spread-grown a (n ∷ members) (l ∷ limits) [] m k e h = refl
spread-grown a (n ∷ members) (l ∷ limits) (w ∷ weights) m k e h = ap (λ s. w * (false_weight a n - l) + s) (spread-grown a members limits weights m k (omega arith) (omega arith))
spread-grown a members limits weights m k e h = absurd (omega arith)

-- and with one
pub spread-more : (a : Assignment) (members : List (List Weighted)) (limits weights : List ℕ) (m : List Weighted) (k w : ℕ) → length limits ≡ length members → length weights ≡ length members
    → spread a (members ++ m ∷ []) (limits ++ k ∷ []) (weights ++ w ∷ []) ≡ spread a members limits weights + w * (false_weight a m - k)
spread-more a [] [] [] m k w e h = omega arith
spread-more a (n ∷ members) (l ∷ limits) (x ∷ weights) m k w e h = omega (arith, spread-more a members limits weights m k w (omega arith) (omega arith))
spread-more a members limits weights m k w e h = absurd (omega arith)

first-two : (members : List (List Weighted)) (m : List Weighted) → 2 ≤ length members → take 2 (members ++ m ∷ []) ≡ take 2 members
first-two (x ∷ y ∷ members) m h = refl
first-two members m h = absurd (omega arith)

pub grown-same : (rules new : Rules) → new ≡ rules → Grown rules new
grown-same rules new e = record {
  cnf = ap (λ (r : Rules). r.cnf) e;
  more = omega (arith, ap (λ (r : Rules). length r.members) e);
  first = λ h. ap (λ (r : Rules). take 2 r.members) e;
  kept = λ a k. grind (arith, k);
  spread_ = λ a weights h. ap (λ (r : Rules). spread a r.members r.limits weights) e;
}

pub grown-more : (rules new : Rules) (m : List Weighted) (k : ℕ) → length rules.limits ≡ length rules.members → new ≡ record rules { members = rules.members ++ m ∷ []; limits = rules.limits ++ k ∷ [] } → Grown rules new
grown-more rules new m k even e = record {
  cnf = ap (λ (r : Rules). r.cnf) e;
  more = omega (arith, ap (λ (r : Rules). length r.members) e, length-append rules.members (m ∷ []));
  first = λ h. ap (λ (r : Rules). take 2 r.members) e ∙ first-two rules.members m h;
  kept = λ a h. grind (arith, h, respects_less a (rules.cnf.vars + 1) rules.members rules.limits m k);
  spread_ = λ a weights h. ap (λ (r : Rules). spread a r.members r.limits weights) e ∙ spread-grown a rules.members rules.limits weights m k even h;
}

pub ruleset grow_steps = (grown-same, grown-more, spread-more)

-- ---- a weight that is lessened

part-at : (a : Assignment) (v i m : ℕ) (weights : List ℕ) → i < length weights → m ≤ get_or weights i 0
    → false_weight a (priced v (set weights i (get_or weights i 0 - m))) + m * unit_if_false a (pos (v + i)) ≡ false_weight a (priced v weights)
part-at a v i m [] h e = absurd (omega arith)
part-at a v zero m (w ∷ weights) h e = let same : v + 0 ≡ v = omega arith in grind arith
part-at a v (suc i) m (w ∷ weights) h e = let same : v + suc i ≡ (v + 1) + i = omega arith in grind (arith, part-at a (v + 1) i m weights)

pub part-lessened : (a : Assignment) (i m : ℕ) (weights : List ℕ) (l : ℤ) → holds a l ≡ a (i + 1) → i < length weights → m ≤ get_or weights i 0
    → false_weight a (priced 1 (set weights i (get_or weights i 0 - m))) + m * unit_if_false a l ≡ false_weight a (priced 1 weights)
part-lessened a i m weights l e h g = let same : 1 + i ≡ i + 1 = omega arith in grind (arith, part-at a 1 i m weights h g)

spread-at : (a : Assignment) (i m : ℕ) (members : List (List Weighted)) (limits weights : List ℕ) → length limits ≡ length members → i < length members → i < length weights → m ≤ get_or weights i 0
    → spread a members limits (set weights i (get_or weights i 0 - m)) + m * (false_weight a (get_or members i []) - get_or limits i 0) ≡ spread a members limits weights
spread-at a zero m (x ∷ members) (n ∷ limits) (w ∷ weights) e h k g = each (false_weight a x - n)
  where
    each : (d : ℕ) → (w - m) * d + spread a members limits weights + m * d ≡ w * d + spread a members limits weights
    each d = let whole : (w - m) + m ≡ w = omega arith in grind (arith, whole)
spread-at a (suc i) m (x ∷ members) (n ∷ limits) (w ∷ weights) e h k g = omega (arith, spread-at a i m members limits weights (omega arith) (omega arith) (omega arith) g)
spread-at a i m members limits weights e h k g = absurd (omega arith)

pub spread-added : (a : Assignment) (i m : ℕ) (members : List (List Weighted)) (limits weights : List ℕ) → length limits ≡ length members → i < length members → i < length weights
    → spread a members limits (set weights i (get_or weights i 0 + m)) ≡ spread a members limits weights + m * (false_weight a (get_or members i []) - get_or limits i 0)
spread-added a zero m (x ∷ members) (n ∷ limits) (w ∷ weights) e h k = omega arith
spread-added a (suc i) m (x ∷ members) (n ∷ limits) (w ∷ weights) e h k = omega (arith, spread-added a i m members limits weights (omega arith) (omega arith) (omega arith))
spread-added a i m members limits weights e h k = absurd (omega arith)

-- what is above a limit is what is above the next one, and 1 if it is above
above : (m n k : ℕ) (b : Bool) → same_bit b (nat_le n k) ≡ true → m * (n - k) ≡ m * (n - (k + 1)) + m * (if b then 0 else 1)
above m n k true e = let low : n ≤ k = grind (arith, nat_tests) in grind arith
above m n k false e = let high : k < n = grind (arith, nat_tests) in let whole : n - k ≡ (n - (k + 1)) + 1 = omega arith in rw whole (grind arith)

pub bound-lessened : (a : Assignment) (rules : Rules) (i m : ℕ) (weights : List ℕ) (l : ℤ) → keeps rules a ≡ true → length rules.limits ≡ length rules.members
    → holds a l ≡ a (rules.cnf.vars + i + 1) → length weights ≤ length rules.members → i < length weights → m ≤ get_or weights i 0
    → spread a rules.members rules.limits (set weights i (get_or weights i 0 - m)) + m * (false_weight a (get_or rules.members i []) - (get_or rules.limits i 0 + 1)) + m * unit_if_false a l
    ≡ spread a rules.members rules.limits weights
bound-lessened a rules i m weights l k even is short h g =
    let same : (rules.cnf.vars + 1) + i ≡ rules.cnf.vars + i + 1 = omega arith in
    let r : respects a (rules.cnf.vars + 1) rules.members rules.limits ≡ true = grind arith in
    let bit = rw same at (respects_at a (rules.cnf.vars + 1) i rules.members rules.limits r (omega arith) (omega arith)) in
    let both = above m (false_weight a (get_or rules.members i [])) (get_or rules.limits i 0) (a (rules.cnf.vars + i + 1)) bit in
    let all = spread-at a i m rules.members rules.limits weights even (omega arith) h g in
    rw is (omega (arith, both, all))
