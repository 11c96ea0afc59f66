-- The first state by cost and then by order, and the first one after a point.
use Rattle.std.proofs.Common.{◌≡◌, ℕ, ◌+◌, ◌<◌, ◌≤◌, Bool, true, List, Option, Some, refl, arith, inr, ⊎_elim}
use Rattle.std.proofs.lemmas.Bool.Decides.{nat_tests}
use Rattle.std.specs.Prelude.{◌⊎◌}
use Rattle.std.proofs.lemmas.Bool.{cases_order, and_parts, and_from, or_cases, or_left, or_right, lt-ltb, ltb-true, eq-eqb, eqb-true}
use Rattle.state_rules.specs.Ranking.{cost, is_before}
use Rattle.state_rules.specs.Graphs.{Graph}
use Rattle.state_rules.specs.Levels.{is_level_before}
use Rattle.diagnosis_lister.specs.inner.Fixing.{IsFirst, NoneAfter}
use Rattle.level_lister.specs.inner.Searching.{OfCost, HasCost, IsListed, IsFirstLevel, Finds, is_later}

module _ (costs : List ℕ) (h k : List Bool) where
  pub cheaper-before : cost costs h < cost costs k → is_level_before costs h k ≡ true
  cheaper-before lt = or_left _ _ (lt-ltb (cost costs h) (cost costs k) lt)

  pub same-before : cost costs h ≡ cost costs k → is_before h k ≡ true → is_level_before costs h k ≡ true
  same-before e b = or_right _ _ (and_from _ _ (eq-eqb (cost costs h) (cost costs k) e) b)

  pub before-cases : is_level_before costs h k ≡ true → (cost costs h < cost costs k) ⊎ ((cost costs h ≡ cost costs k) × (is_before h k ≡ true))
  before-cases e = grind (arith, nat_tests, ltb-true, and_parts, eqb-true, or_cases)

module _ (graph : Graph) (evidence costs : List ℕ) (top : ℕ) where
  pub listed-cost : (from : ℕ) (k : List Bool) → IsListed graph evidence costs from top k → OfCost graph evidence costs (cost costs k) k
  listed-cost from k l = record { long = l.long; model = l.model; cost_is = refl }

  pub listed-has : (from : ℕ) (k : List Bool) → IsListed graph evidence costs from top k → HasCost graph evidence costs (cost costs k)
  listed-has from k l = record { state = k; is = listed-cost from k l }

  -- the first state of the least cost from `from` on
  pub first-from : (from c : ℕ) (h : List Bool) → from ≤ c → c ≤ top → ((d : ℕ) → from ≤ d → d < c → HasCost graph evidence costs d → ⊥) → IsFirst (OfCost graph evidence costs c) h → IsFirstLevel costs (IsListed graph evidence costs from top) h
  first-from from c h low high none is = record {
    meets = record { long = is.meets.long; model = is.meets.model; low = omega (arith, is.meets.cost_is); high = omega (arith, is.meets.cost_is) };
    before = λ k l. ⊎_elim
        grind (arith, nat_tests, same-before, is.before)
        (⊎_elim
        (λ lt. absurd (none (cost costs k) l.low lt (listed-has from k l)))
        (λ gt. inr (cheaper-before costs h k (omega (arith, is.meets.cost_is, gt)))))
        (cases_order (cost costs k) c);
  }

  abbrev pub Later : List Bool → List Bool → Type 0
  Later point h = IsListed graph evidence costs 0 top h × (is_later costs (Some point) h ≡ true)

  -- a later state of the point's own cost
  pub first-same : (point h : List Bool) → cost costs point ≤ top → IsFirst (λ k. OfCost graph evidence costs (cost costs point) k × (is_before point k ≡ true)) h → IsFirstLevel costs (Later point) h
  first-same point h le is = grind (arith, nat_tests, same-before, cheaper-before, is.before, before-cases)

  -- if there is none, the later states are those that cost more
  pub later-dearer : (point : List Bool) → NoneAfter (OfCost graph evidence costs (cost costs point)) point 0 → (h : List Bool) → Later point h → IsListed graph evidence costs (cost costs point + 1) top h
  later-dearer point none h l = grind (arith, nat_tests, none, before-cases)

  pub dearer-later : (point h : List Bool) → IsListed graph evidence costs (cost costs point + 1) top h → Later point h
  dearer-later point h l = (record { long = l.long; model = l.model; low = omega arith; high = l.high }, cheaper-before costs point h (omega (arith, l.low)))

  pub none-too_dear : (point h : List Bool) → top < cost costs point → Later point h → ⊥
  none-too_dear point h lt l = ⊎_elim (λ p. absurd (omega (arith, l.0.high))) (λ p. absurd (omega (arith, l.0.high, p.0))) (before-cases costs point h l.1)

first-alike : (costs : List ℕ) (P Q : List Bool → Type 0) (h : List Bool) → ((k : List Bool) → P k → Q k) → ((k : List Bool) → Q k → P k) → IsFirstLevel costs P h → IsFirstLevel costs Q h
first-alike costs P Q h to from is = record { meets = to h is.meets; before = λ k q. is.before k (from k q) }

-- conditions that hold of the same states
pub finds-alike : (old costs : List ℕ) (P Q : List Bool → Type 0) (new : List ℕ) (result : Option ℕ) → ((k : List Bool) → P k → Q k) → ((k : List Bool) → Q k → P k) → Finds old costs P new result → Finds old costs Q new result
finds-alike old costs P Q new result to from f = grind (arith, nat_tests, first-alike)
