-- What two words say of a node, from what they say of its children.
use Rattle.std.proofs.Common.{◌≡◌, ℕ, ◌+◌, ◌-◌, ◌*◌, ◌<◌, ◌≤◌, Bool, true, false, not, ◌&&◌, ◌||◌, List, length, get_or, refl, ap, sym, ◌∙◌, subst, arith, inl, inr, ⊎_elim, bit_or}
use Rattle.std.specs.Prelude.{◌⊎◌, ◌==◌}
use Rattle.std.proofs.Math.Bool.{and-true}
use Rattle.std.proofs.lemmas.Bool.{cases_lt, eqb-true, eq-eqb, false≢true}
use Rattle.state_rules.specs.Assignments.{Assignment}
use Rattle.state_rules.specs.Cases.{agrees_at}
use Rattle.state_rules.specs.Bits.{same_bit, has_bit}
use Rattle.state_rules.proofs.WordBits.{has_bit-zero, one_bit, has_bit-or}
use Rattle.node_costs.specs.Costs.{Weights, Agrees, SumOf, Depends, IsRow}
use Rattle.node_costs.proofs.Conditions.{cost_among-none, cost-none}
use Rattle.node_costs.proofs.Sets.{sum-flip, row-none, row-as, row-or, row-sum}
use Rattle.node_costs.proofs.Tests.{cost-any, any-costs, cost-all, all-costs, depends-all, row-cost, row-literal}
use Rattle.minimiser.specs.Costs.{known_at, part_cost}
use Rattle.scratch_pool.proofs.Counted.{block-below}
use Rattle.level_lister.specs.declared.pairs.Pair.{Pair}
use Rattle.level_lister.specs.inner.CostSets.{fault_weights}
use Rattle.level_lister.specs.inner.Pairs.{IsSpread, Tells}
use Rattle.level_lister.proofs.PartVariables.{Wider}
use Rattle.level_lister.proofs.TestCosts.{only_parts, part_cost-at}
use Rattle.level_lister.proofs.Faults.{FaultCost, cost-any_fault, any_fault-costs, cost-all_fault, all_fault-costs, row-fault, row-fault_one}

-- ---- one word

-- how a number and some steps add up
record Split (step n g first times : ℕ) : Type 0 where
  pub rest : ℕ
  pub rest_is : rest + times ≡ n
  pub first_is : first ≡ step * rest + g

times_sum : (step times rest : ℕ) → step * (times + rest) ≡ step * times + step * rest
times_sum step times rest = grind arith

pub step_below : (step m n : ℕ) → m < n → step * m + step ≤ step * n
step_below step m n h = grind (arith, block-below m n step h)

split : (step n g first times : ℕ) → g < step → first + step * times ≡ step * n + g → Split step n g first times
split step n g first times lt e = ⊎_elim
    (λ (p : n < times). absurd (omega (arith, step_below step n times p)))
    grind arith
    (cases_lt n times)

-- a spread word: the row of the sums
spread-row : (left right step top first word : ℕ) → first < step → step * (top + 1) ≤ 32 → IsSpread left right step (top + 1) word
    → IsRow (λ n. has_bit word (step * n + first)) (top + 1) (SumOf (λ n. has_bit left (step * n + first) ≡ true) (λ n. has_bit right (1 * n + 0) ≡ true))
spread-row left right step top first word lt room spread = record {
  sound = λ n le e.
      let s = spread.sound (step * n + first) e in
      let parts = split step n first s.first s.times lt s.sum_is in
      let place : s.times ≡ 1 * s.times + 0 = omega arith in
      record { left = parts.rest; right = s.times; on_left = subst (λ m. has_bit left m ≡ true) parts.first_is s.on_left; on_right = subst (λ m. has_bit right m ≡ true) place s.on_right; sum_is = parts.rest_is };
  whole = λ n le s.
      let place : 1 * s.right + 0 ≡ s.right = omega arith in
      let sum : step * s.left + first + step * s.right ≡ step * n + first = omega (arith, ap (λ m. step * m) (sym s.sum_is), times_sum step s.left s.right) in
      let below : step * n + step ≤ step * (top + 1) = step_below step n (top + 1) le in
      subst (λ m. has_bit word m ≡ true) sum
      (spread.whole (step * s.left + first) s.right s.on_left (omega (arith, s.sum_is)) (subst (λ m. has_bit right m ≡ true) place s.on_right) (omega (arith, sum, below)));
}

module _ (evidence costs : List ℕ) (top step : ℕ) (group : ℕ → ℕ → Bool) where
  abbrev g : Weights
  g = fault_weights evidence costs

  or_row : (C D : ℕ → Type 0) (by first left right : ℕ) → IsRow (λ n. has_bit left (by * n + first)) (top + 1) C → IsRow (λ n. has_bit right (by * n + first)) (top + 1) D
      → IsRow (λ n. has_bit (bit_or left right) (by * n + first)) (top + 1) (λ n. C n ⊎ D n)
  or_row C D by first left right is_c is_d = row-or (top + 1) _ _ _ C D (λ n lt. has_bit-or left right (by * n + first)) is_c is_d

  zero_row : (C : ℕ → Type 0) (by first : ℕ) → ((n : ℕ) → C n → ⊥) → IsRow (λ n. has_bit 0 (by * n + first)) (top + 1) C
  zero_row C by first never = row-none (top + 1) _ C (λ n lt. has_bit-zero (by * n + first)) never

  -- the same test over variables that hold the same parts
  pub tells_same : (t u : Assignment → Bool) (some more : ℕ → Bool) (pair : Pair) → ((e v : ℕ) → group e v ≡ true → (1 ≤ v) × (v < 1 + length costs)) → ((a : Assignment) → t a ≡ u a) → Wider (length costs) some more
      → Tells evidence costs top step group t some pair → Tells evidence costs top step group u more pair
  tells_same t u some more pair parts e wider is = record {
    cost_bits = row-cost g (top + 1) _ some more _ _ (λ a f h. sym (e a) ∙ h) (λ a f h. e a ∙ h) wider.same is.cost_bits;
    fault_bits = λ i lt. row-fault g (group i) (top + 1) _ (parts i) t u some more e wider (is.fault_bits i lt);
    local = λ a b h. sym (e a) ∙ is.local a b (λ v p. h v (wider.within v p)) ∙ e b;
  }

  -- tests that are the same for assignments that agree with the evidence
  pub tells_known : (t u : Assignment → Bool) (some : ℕ → Bool) (pair : Pair) → ((a : Assignment) → Agrees (fault_weights evidence costs) a → t a ≡ u a) → Depends some u → Tells evidence costs top step group t some pair → Tells evidence costs top step group u some pair
  tells_known t u some pair e local is = record {
    cost_bits = row-cost g (top + 1) _ some some _ _ (λ a f h. sym (e a f) ∙ h) (λ a f h. e a f ∙ h) (λ v l h. refl) is.cost_bits;
    fault_bits = λ i lt. row-cost g (top + 1) _ some some _ _ (λ a f h. (sym (e a f) ∙ h.0, h.1)) (λ a f h. (e a f ∙ h.0, h.1)) (λ v l h. refl) (is.fault_bits i lt);
    local = local;
  }

  pub tells_or : (t u : Assignment → Bool) (some : ℕ → Bool) (left right : Pair) → Tells evidence costs top step group t some left → Tells evidence costs top step group u some right
      → Tells evidence costs top step group (λ a. t a || u a) some (record { costs = bit_or left.costs right.costs; faults = bit_or left.faults right.faults })
  tells_or t u some left right is_t is_u = record {
    cost_bits = row-as (top + 1) _ _ _ (cost-any g t u some) (any-costs g t u some) (or_row _ _ 1 0 left.costs right.costs is_t.cost_bits is_u.cost_bits);
    fault_bits = λ i lt. row-as (top + 1) _ _ _ (cost-any_fault g (group i) t u some) (any_fault-costs g (group i) t u some) (or_row _ _ step i left.faults right.faults (is_t.fault_bits i lt) (is_u.fault_bits i lt));
    local = λ a b h. (λ i. is_t.local a b h i || is_u.local a b h i);
  }

  pub tells_and : (t u : Assignment → Bool) (some more : ℕ → Bool) (left right : Pair) (sums one other : ℕ) → 0 < step → step * (top + 1) ≤ 32 → ((v : ℕ) → (some v && more v) ≡ false)
      → IsSpread left.costs right.costs 1 (top + 1) sums → IsSpread left.faults right.costs step (top + 1) one → IsSpread right.faults left.costs step (top + 1) other
      → Tells evidence costs top step group t some left → Tells evidence costs top step group u more right
      → Tells evidence costs top step group (λ a. t a && u a) (λ v. some v || more v) (record { costs = sums; faults = bit_or one other })
  tells_and t u some more left right sums one other some_step room apart on_costs on_one on_other is_t is_u = record {
    cost_bits = row-as (top + 1) _ _ _ (cost-all g t u some more apart is_t.local is_u.local) (all-costs g t u some more apart is_t.local is_u.local)
        (row-sum (top + 1) _ _ _ _ _ (spread-row left.costs right.costs 1 top 0 sums (omega arith) (omega (arith, at_least step some_step (top + 1), room)) on_costs) is_t.cost_bits is_u.cost_bits);
    fault_bits = λ i lt. row-as (top + 1) _ _ _
        (λ n s. cost-all_fault g (group i) t u some more apart is_t.local is_u.local n (⊎_elim (λ x. inl x) (λ x. inr (sum-flip _ _ n x)) s))
        (λ n c. ⊎_elim (λ x. inl x) (λ x. inr (sum-flip _ _ n x)) (all_fault-costs g (group i) t u some more apart is_t.local is_u.local n c))
        (or_row _ _ step i one other
        (row-sum (top + 1) _ _ _ _ _ (spread-row left.faults right.costs step top i one lt room on_one) (is_t.fault_bits i lt) is_u.cost_bits)
        (row-sum (top + 1) _ _ _ _ _ (spread-row right.faults left.costs step top i other lt room on_other) (is_u.fault_bits i lt) is_t.cost_bits));
    local = depends-all g t u some more is_t.local is_u.local;
  } where
    at_least : (step : ℕ) → 0 < step → (n : ℕ) → 1 * n ≤ step * n
    at_least step h n = grind arith

  -- ---- single cases

  -- a test that is never true
  pub tells_none : (t : Assignment → Bool) (some : ℕ → Bool) → ((a : Assignment) → Agrees (fault_weights evidence costs) a → t a ≡ true → ⊥) → Depends some t → Tells evidence costs top step group t some (record { costs = 0; faults = 0 })
  tells_none t some none local = record { cost_bits = zero_row _ 1 0 (λ n c. none c.by c.agrees c.meets); fault_bits = λ i lt. zero_row _ step i (λ n c. none c.by c.agrees c.meets.0); local = local }

  one_at : (n : ℕ) → has_bit 1 (1 * n + 0) ≡ (n == 0)
  one_at n = let place : 1 * n + 0 ≡ n = omega arith in one_bit 32 0 (1 * n + 0) (omega arith) ∙ ap (λ k. k == 0) place

  -- no variable
  pub tells_true : Tells evidence costs top step group (λ a. true) (λ v. false) (record { costs = 1; faults = 0 })
  tells_true = grind (arith, cost-none, cost_among-none, one_at)

  module _ (var : ℕ) (low : 1 ≤ var) where
    -- a variable that is true
    pub tells_ok : agrees_at (known_at evidence var) true ≡ true → Tells evidence costs top step group (λ a. same_bit true (a var)) (λ v. var == v) (record { costs = 1; faults = 0 })
    tells_ok allowed = record {
      cost_bits = row-literal g (top + 1) _ (only_parts evidence costs) var true allowed (λ n lt. one_at n);
      fault_bits = λ i lt. zero_row _ step i (λ n c. false≢true (sym c.meets.1.faulty ∙ ap c.by (sym (eqb-true var c.meets.1.var c.meets.1.among)) ∙ c.meets.0));
      local = λ a b h. h var (eq-eqb var var refl);
    }

    -- a variable that is false
    pub tells_faulty : (cost word mark : ℕ) → top < 32 → cost ≡ get_or costs (var - 1) 0 → agrees_at (known_at evidence var) false ≡ true → ((n : ℕ) → n < 32 → has_bit word n ≡ (n == cost))
        → ((n i : ℕ) → n ≤ top → i < step → has_bit mark (step * n + i) ≡ ((n == cost) && group i var))
        → Tells evidence costs top step group (λ a. same_bit false (a var)) (λ v. var == v) (record { costs = word; faults = mark })
    tells_faulty cost word mark small cost_is allowed on_word on_mark = record {
      cost_bits = row-literal g (top + 1) _ (only_parts evidence costs) var false allowed (λ n lt. ap (has_bit word) (place n) ∙ on_word n (omega arith) ∙ ap (λ k. n == k) price);
      fault_bits = λ i lt. by_group i lt (group i var) refl;
      local = λ a b h. ap not (h var (eq-eqb var var refl));
    } where
      price : cost ≡ part_cost costs var
      price = cost_is ∙ part_cost-at costs var low

      place : (n : ℕ) → 1 * n + 0 ≡ n
      place n = omega arith

      by_group : (i : ℕ) → i < step → (b : Bool) → group i var ≡ b → IsRow (λ n. has_bit mark (step * n + i)) (top + 1) (FaultCost g (group i) (λ v. var == v) (λ a. same_bit false (a var)))
      by_group i lt true e = row-fault_one g (group i) (top + 1) _ (only_parts evidence costs) var allowed e (λ n h. on_mark n i (omega arith) lt ∙ (λ j. (n == price j) && e j) ∙ and-true (n == part_cost costs var))
      by_group i lt false e = grind arith
