-- What a core adds to the least cost.
use Rattle.std.proofs.Common.{◌≡◌, ℕ, ◌+◌, ◌<◌, ◌≤◌, true, false, List, [], ◌∷◌, ◌++◌, length, get_or, take, ℤ, sym, ◌∙◌, arith}
use Rattle.std.proofs.lemmas.List.{take_more, take_all}
use Rattle.std.proofs.lemmas.List.Folds.{list_all_more}
use Rattle.state_rules.specs.Assignments.{Assignment}
use Rattle.clause_search.specs.declared.weighted.Weighted.{Weighted}
use Rattle.clause_search.specs.Searching.{Rules, holds, all_true, false_weight}
use Rattle.clause_answers.specs.inner.Weighing.{unit_if_false, Grown}

pub weight-push : (a : Assignment) (members : List Weighted) (m : Weighted) (l : ℤ) → m ≡ record { literal = l; weight = 1 } → false_weight a (members ++ m ∷ []) ≡ false_weight a members + unit_if_false a l
weight-push a [] m l e = grind arith
weight-push a (x ∷ members) m l e = grind (arith, weight-push a members m l e)

pub grown-trans : (first second third : Rules) → Grown first second → Grown second third → Grown first third
grown-trans first second third g h = record {
  cnf = grind (arith, g.cnf, h.cnf);
  more = omega (arith, g.more, h.more);
  first = λ two. grind (arith, g.first two, h.first (omega (arith, two, g.more)));
  kept = λ a k. g.kept a (h.kept a k);
  spread_ = λ a weights short. grind (arith, g.spread_ a weights short, h.spread_ a weights (omega (arith, short, g.more)));
}

pub ruleset collect_steps = (weight-push, grown-trans)

pub ruleset raise_steps = (grown-trans)

-- a literal of a core that is given
pub some-given : (a : Assignment) (core : List ℤ) (i n : ℕ) (d l : ℤ) → i < length core → l ≡ get_or core i d → holds a l ≡ true → (all_true a (take i core) ≡ false → 1 ≤ n)
    → all_true a (take (i + 1) core) ≡ false → 1 ≤ n
some-given a core i n d l h is t before f = grind (arith, list_all_more (holds a) core i d h, before)

-- and one that is collected
pub some-moved : (a : Assignment) (core : List ℤ) (i n m : ℕ) (d l : ℤ) → i < length core → l ≡ get_or core i d → m ≡ n + unit_if_false a l → (all_true a (take i core) ≡ false → 1 ≤ n)
    → all_true a (take (i + 1) core) ≡ false → 1 ≤ m
some-moved a core i n m d l h is e before f = grind (arith, list_all_more (holds a) core i d h, before)

-- ---- equal members

same-member : (m n : Weighted) → m.literal ≡ n.literal → m.weight ≡ n.weight → m ≡ n
same-member m n e f = λ i. record { literal = e i; weight = f i }

pub same-more : (xs ys : List Weighted) (i : ℕ) (d : Weighted) → i < length xs → i < length ys → take i xs ≡ take i ys → (get_or xs i d).literal ≡ (get_or ys i d).literal → (get_or xs i d).weight ≡ (get_or ys i d).weight
    → take (i + 1) xs ≡ take (i + 1) ys
same-more xs ys i d h k e f g = take_more xs i d h ∙ (λ j. e j ++ same-member (get_or xs i d) (get_or ys i d) f g j ∷ []) ∙ sym (take_more ys i d k)

pub same-all : (xs ys : List Weighted) (i : ℕ) → take i xs ≡ take i ys → length xs ≤ i → length ys ≤ i → xs ≡ ys
same-all xs ys i e h k = sym (take_all i xs h) ∙ e ∙ take_all i ys k

pub ruleset same_steps = (same-more, same-all)
