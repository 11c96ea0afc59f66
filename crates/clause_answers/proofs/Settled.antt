-- What weights say of assignments of little cost.
use Rattle.std.proofs.Common.{◌≡◌, ℕ, zero, suc, ◌+◌, ◌-◌, ◌*◌, ◌<◌, ◌≤◌, Bool, true, false, List, [], ◌∷◌, length, get_or, take, ℤ, refl, ap, sym, ◌∙◌, subst, arith}
use Rattle.std.specs.Prelude.{nat_le}
use Rattle.std.proofs.lemmas.Bool.Decides.{nat_tests}
use Rattle.state_rules.specs.Bits.{same_bit}
use Rattle.state_rules.specs.Assignments.{Assignment}
use Rattle.clause_search.specs.declared.weighted.Weighted.{Weighted}
use Rattle.clause_search.specs.Searching.{Rules, false_weight, keeps, respects, priced}
use Rattle.clause_search.proofs.Defined.{respects_at}
use Rattle.clause_answers.specs.declared.weights.Weights.{Weights}
use Rattle.clause_answers.specs.inner.Known.{Knows, AreTrue}
use Rattle.clause_answers.specs.inner.Weighing.{spread, Weighs, IsFresh, Grown}
use Rattle.clause_answers.specs.inner.Carrying.{first_two}

parts-settled : (a : Assignment) (v i : ℕ) (weights : List ℕ) → false_weight a (priced v weights) ≡ 0 → i < length weights → 0 < get_or weights i 0 → a (v + i) ≡ true
parts-settled a v i [] e h p = absurd (omega arith)
parts-settled a v zero (w ∷ weights) e h p = let same : v + 0 ≡ v = omega arith in grind arith
parts-settled a v (suc i) (w ∷ weights) e h p = let same : v + suc i ≡ (v + 1) + i = omega arith in grind (arith, parts-settled a (v + 1) i weights)

spread-term : (a : Assignment) (i : ℕ) (members : List (List Weighted)) (limits weights : List ℕ) → length limits ≡ length members → i < length members → i < length weights
    → get_or weights i 0 * (false_weight a (get_or members i []) - get_or limits i 0) ≤ spread a members limits weights
spread-term a zero (m ∷ members) (n ∷ limits) (w ∷ weights) e h k = omega arith
spread-term a (suc i) (m ∷ members) (n ∷ limits) (w ∷ weights) e h k = omega (arith, spread-term a i members limits weights (omega arith) (omega arith) (omega arith))
spread-term a i members limits weights e h k = absurd (omega arith)

none-above : (w d s : ℕ) → w * d ≤ s → s ≡ 0 → 0 < w → d ≡ 0
none-above w zero s h e p = refl
none-above w (suc d) s h e p = absurd (let whole : w * suc d ≡ w * d + w = grind arith in omega arith)

below-limit : (n k : ℕ) (b : Bool) → same_bit b (nat_le n k) ≡ true → n - k ≡ 0 → b ≡ true
below-limit n k true e z = refl
below-limit n k false e z = grind (arith, nat_tests)

-- An assignment that costs no more than the weights say all do makes each literal with a weight true.
module _ (rules : Rules) (costs evidence : List ℕ) (weights : Weights) (even : length rules.limits ≡ length rules.members) (w : Weighs rules costs evidence [] weights) (a : Assignment)
    (kept : keeps rules a ≡ true) (known : Knows a evidence (length evidence)) (low : false_weight a (priced 1 costs) ≤ weights.lower) where
  pub settled-parts : AreTrue a 0 weights.parts.items (length weights.parts.items)
  settled-parts i lt p =
      let none : false_weight a (priced 1 weights.parts.items) ≡ 0 = omega (arith, w.below a kept known refl) in
      let same : 1 + i ≡ 0 + i + 1 = omega arith in
      ap a (sym same) ∙ parts-settled a 1 i weights.parts.items none lt p

  pub settled-bounds : AreTrue a rules.cnf.vars weights.bounds.items (length weights.bounds.items)
  settled-bounds i lt p =
      let none : spread a rules.members rules.limits weights.bounds.items ≡ 0 = omega (arith, w.below a kept known refl) in
      let same : (rules.cnf.vars + 1) + i ≡ rules.cnf.vars + i + 1 = omega arith in
      let r : respects a (rules.cnf.vars + 1) rules.members rules.limits ≡ true = grind arith in
      let bit = rw same at (respects_at a (rules.cnf.vars + 1) i rules.members rules.limits r (omega (arith, w.short, lt)) (omega (arith, w.short, lt))) in
      let zero_ = none-above _ _ _ (spread-term a i rules.members rules.limits weights.bounds.items even (omega (arith, w.short, lt)) lt) none p in
      below-limit _ _ _ bit zero_

-- Weights that are the costs.
spread-none : (a : Assignment) (members : List (List Weighted)) (limits : List ℕ) → spread a members limits [] ≡ 0
spread-none a [] limits = refl
spread-none a (m ∷ members) [] = refl
spread-none a (m ∷ members) (k ∷ limits) = refl

pub weighs-fresh : (rules : Rules) (costs evidence : List ℕ) (weights : Weights) → IsFresh costs weights → Weighs rules costs evidence [] weights
weighs-fresh rules costs evidence weights f = record {
  parts = ap length f.parts;
  short = omega (arith, ap length f.bounds);
  below = λ a k e t. grind (arith, f.parts, f.bounds, f.lower, spread-none a rules.members rules.limits);
}

-- With more definitions they say the same.
pub weighs-grown : (old new : Rules) (costs evidence : List ℕ) (literals : List ℤ) (weights : Weights) → Weighs old costs evidence literals weights → Grown old new → Weighs new costs evidence literals weights
weighs-grown old new costs evidence literals weights w g = record {
  parts = w.parts;
  short = omega (arith, w.short, g.more);
  below = λ a k e t. omega (arith, w.below a (g.kept a k) e t, g.spread_ a weights.bounds.items w.short);
}

-- A copy of them, for more literals.
pub weighs-copied : (rules : Rules) (costs evidence : List ℕ) (literals : List ℤ) (weights copy : Weights) → Weighs rules costs evidence [] weights
    → copy.parts.items ≡ weights.parts.items → copy.bounds.items ≡ weights.bounds.items → copy.lower ≡ weights.lower → Weighs rules costs evidence literals copy
weighs-copied rules costs evidence literals weights copy w p b l = record {
  parts = ap length p ∙ w.parts;
  short = omega (arith, w.short, ap length b);
  below = λ a k e t. grind (arith, w.below a k e refl);
}

-- What the first two definitions say of the cost.
first-at : (members : List (List Weighted)) (costs : List ℕ) → take 2 members ≡ first_two costs → (2 ≤ length members) × (get_or members 0 [] ≡ priced 1 costs) × (get_or members 1 [] ≡ priced 1 costs)
first-at (x ∷ y ∷ members) costs e = (omega arith, cc, cc)
first-at members costs e = absurd (cc)

pub first-many : (members : List (List Weighted)) (costs : List ℕ) → take 2 members ≡ first_two costs → 2 ≤ length members
first-many members costs e = (first-at members costs e).0

module _ (rules : Rules) (costs : List ℕ) (a : Assignment) (even : length rules.limits ≡ length rules.members) (first : take 2 rules.members ≡ first_two costs) (kept : keeps rules a ≡ true) where
  pub says-most : (v most : ℕ) → v ≡ rules.cnf.vars → get_or rules.limits 0 0 ≡ most → same_bit (a (v + 1)) (nat_le (false_weight a (priced 1 costs)) most) ≡ true
  says-most v most e m =
      let f = first-at rules.members costs first in
      let r : respects a (rules.cnf.vars + 1) rules.members rules.limits ≡ true = grind arith in
      let same : (rules.cnf.vars + 1) + 0 ≡ rules.cnf.vars + 1 = omega arith in
      let bit = rw (same, f.1) at (respects_at a (rules.cnf.vars + 1) 0 rules.members rules.limits r (omega (arith, f.0)) (omega (arith, f.0))) in
      subst (λ (x : ℕ). same_bit (a (x + 1)) (nat_le (false_weight a (priced 1 costs)) most) ≡ true) (sym e)
      (subst (λ (y : ℕ). same_bit (a (rules.cnf.vars + 1)) (nat_le (false_weight a (priced 1 costs)) y) ≡ true) m bit)

  pub says-less : (v less : ℕ) → v ≡ rules.cnf.vars → get_or rules.limits 1 0 ≡ less → same_bit (a (v + 2)) (nat_le (false_weight a (priced 1 costs)) less) ≡ true
  says-less v less e l =
      let f = first-at rules.members costs first in
      let r : respects a (rules.cnf.vars + 1) rules.members rules.limits ≡ true = grind arith in
      let same : (rules.cnf.vars + 1) + 1 ≡ rules.cnf.vars + 2 = omega arith in
      let bit = rw (same, f.2) at (respects_at a (rules.cnf.vars + 1) 1 rules.members rules.limits r (omega (arith, f.0)) (omega (arith, f.0))) in
      subst (λ (x : ℕ). same_bit (a (x + 2)) (nat_le (false_weight a (priced 1 costs)) less) ≡ true) (sym e)
      (subst (λ (y : ℕ). same_bit (a (rules.cnf.vars + 2)) (nat_le (false_weight a (priced 1 costs)) y) ≡ true) l bit)
