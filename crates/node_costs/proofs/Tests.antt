-- The costs of tests, and rows of bits for them.
use Rattle.std.proofs.Common.{◌≡◌, ℕ, ◌+◌, ◌<◌, ◌≤◌, Bool, true, ◌&&◌, ◌||◌, refl, sym, ◌∙◌, subst, ⊎_elim}
use Rattle.std.specs.Prelude.{◌⊎◌, ◌==◌}
use Rattle.std.proofs.lemmas.Bool.{and_parts, and_from, or_cases, or_left, or_right}
use Rattle.state_rules.specs.Assignments.{Assignment}
use Rattle.state_rules.specs.Bits.{same_bit}
use Rattle.state_rules.specs.Cases.{agrees_at}
use Rattle.node_costs.specs.Costs.{Weights, Agrees, TestCost, CostOf, SumOf, IsRow, Depends}
use Rattle.node_costs.proofs.Conditions.{Apart, OnlyParts, literal-costs, cost-literal, cost-as, cost-to, cost-or, or-costs, cost-and, and-costs}
use Rattle.node_costs.proofs.Sets.{row-as, row-one}

-- what holds of a test and its variables holds of equal ones
pub same_tests : (Is : (Assignment → Bool) → (ℕ → Bool) → Type 0) {t u : Assignment → Bool} {m o : ℕ → Bool} → ((a : Assignment) → t a ≡ u a) → ((v : ℕ) → m v ≡ o v) → Is t m → Is u o
same_tests Is e f is = subst (λ (p : (Assignment → Bool) × (ℕ → Bool)). Is p.0 p.1) (λ i. ((λ a. e a i), (λ v. f v i))) is

module _ (g : Weights) (t u : Assignment → Bool) where
  -- ---- one of two

  pub cost-any : (m : ℕ → Bool) (n : ℕ) → TestCost g m t n ⊎ TestCost g m u n → TestCost g m (λ a. t a || u a) n
  cost-any m n s = cost-to g _ _ _ (λ a p. ⊎_elim (or_left _ _) (or_right _ _) p) n (cost-or g m _ _ n s)

  pub any-costs : (m : ℕ → Bool) (n : ℕ) → TestCost g m (λ a. t a || u a) n → TestCost g m t n ⊎ TestCost g m u n
  any-costs m n c = or-costs g m _ _ n (cost-to g _ _ _ (λ a e. or_cases (t a) (u a) e) n c)

  -- ---- both of two

  module _ (m o : ℕ → Bool) (apart : Apart m o) (on_t : Depends m t) (on_u : Depends o u) where
    pub cost-all : (n : ℕ) → SumOf (TestCost g m t) (TestCost g o u) n → TestCost g (λ v. m v || o v) (λ a. t a && u a) n
    cost-all n s = cost-to g _ _ _ (λ a p. and_from _ _ p.0 p.1) n (cost-and g m o _ _ apart (λ a b h e. on_t a b h ∙ e) (λ a b h e. on_u a b h ∙ e) n s)

    pub all-costs : (n : ℕ) → TestCost g (λ v. m v || o v) (λ a. t a && u a) n → SumOf (TestCost g m t) (TestCost g o u) n
    all-costs n c = and-costs g m o _ _ apart n (cost-to g _ _ _ (λ a e. and_parts (t a) (u a) e) n c)

  -- ---- what they depend on

  pub depends-any : (m o : ℕ → Bool) → Depends m t → Depends o u → Depends (λ v. m v || o v) (λ a. t a || u a)
  depends-any m o on_t on_u a b h i = on_t a b (λ v p. h v (or_left _ _ p)) i || on_u a b (λ v p. h v (or_right _ _ p)) i

  pub depends-all : (m o : ℕ → Bool) → Depends m t → Depends o u → Depends (λ v. m v || o v) (λ a. t a && u a)
  depends-all m o on_t on_u a b h i = on_t a b (λ v p. h v (or_left _ _ p)) i && on_u a b (λ v p. h v (or_right _ _ p)) i

-- ---- rows

module _ (g : Weights) (limit : ℕ) (has : ℕ → Bool) where
  -- an equivalent condition, and variables that are the same among the parts
  pub row-cost : (m o : ℕ → Bool) (P Q : Assignment → Type 0) → ((a : Assignment) → Agrees g a → P a → Q a) → ((a : Assignment) → Agrees g a → Q a → P a) → ((v : ℕ) → 1 ≤ v → v < 1 + g.parts → m v ≡ o v)
      → IsRow has limit (CostOf g m P) → IsRow has limit (CostOf g o Q)
  row-cost m o P Q to from same is = row-as limit has _ _ (cost-as g m o P Q to same) (cost-as g o m Q P from (λ v l h. sym (same v l h))) is

  -- an allowed literal
  pub row-literal : OnlyParts g → (var : ℕ) (bit : Bool) → agrees_at (g.known var) bit ≡ true → ((n : ℕ) → n < limit → has n ≡ (n == g.weight var bit)) → IsRow has limit (TestCost g (λ v. var == v) (λ a. same_bit bit (a var)))
  row-literal only_parts var bit allowed one = row-one limit has _ (g.weight var bit) (cost-literal g only_parts var bit (g.weight var bit) (record { allowed = allowed; weight_is = refl })) (λ n c. sym (literal-costs g only_parts var bit n c).weight_is) one
