-- The costs at which a test is true and a part of a group is faulty too.
use Rattle.std.proofs.Common.{◌≡◌, ℕ, ◌+◌, ◌<◌, ◌≤◌, Bool, true, false, ◌&&◌, ◌||◌, refl, sym, ◌∙◌, inl, inr, ⊎_elim}
use Rattle.std.specs.Prelude.{◌⊎◌, ◌==◌}
use Rattle.std.proofs.lemmas.Bool.{and_parts, and_from, or_cases, or_left, or_right, eq-eqb, not-true}
use Rattle.state_rules.specs.Assignments.{Assignment}
use Rattle.state_rules.specs.Bits.{same_bit}
use Rattle.state_rules.specs.Cases.{agrees_at}
use Rattle.node_costs.specs.Costs.{Weights, CostOf, TestCost, Depends, Local, SumOf, IsRow}
use Rattle.node_costs.proofs.Conditions.{Apart, OnlyParts, cost-to, cost-or, or-costs, cost-and, and-costs}
use Rattle.node_costs.proofs.Sets.{row-as}
use Rattle.node_costs.proofs.Tests.{row-cost, row-literal}
use Rattle.level_lister.specs.inner.Pairs.{HasFault}
use Rattle.level_lister.proofs.PartVariables.{Wider}

abbrev pub IsFault : (ℕ → Bool) → (ℕ → Bool) → (Assignment → Bool) → Assignment → Type 0
IsFault group some t a = (t a ≡ true) × HasFault group some a

abbrev pub FaultCost : Weights → (ℕ → Bool) → (ℕ → Bool) → (Assignment → Bool) → ℕ → Type 0
FaultCost g group some t n = CostOf g some (IsFault group some t) n

-- a fault among variables is one among others that have its variable
pub moved : {group some more : ℕ → Bool} {a b : Assignment} → (f : HasFault group some a) → more f.var ≡ true → b f.var ≡ a f.var → HasFault group more b
moved f m e = record { var = f.var; among = m; of_group = f.of_group; faulty = e ∙ f.faulty }

pub fault_local : (group some : ℕ → Bool) (t : Assignment → Bool) → Depends some t → Local some (IsFault group some t)
fault_local group some t on_t a b h e = (on_t a b h ∙ e.0, moved e.1 e.1.among (h e.1.var e.1.among))

module _ (g : Weights) (group : ℕ → Bool) where
  -- ---- one of two tests, and both of them

  module _ (t u : Assignment → Bool) where
    pub cost-any_fault : (some : ℕ → Bool) (n : ℕ) → FaultCost g group some t n ⊎ FaultCost g group some u n → FaultCost g group some (λ a. t a || u a) n
    cost-any_fault some n s = cost-to g _ _ _ (λ a p. ⊎_elim (λ q. (or_left _ _ q.0, q.1)) (λ q. (or_right _ _ q.0, q.1)) p) n (cost-or g _ _ _ n s)

    pub any_fault-costs : (some : ℕ → Bool) (n : ℕ) → FaultCost g group some (λ a. t a || u a) n → FaultCost g group some t n ⊎ FaultCost g group some u n
    any_fault-costs some n c = or-costs g _ _ _ n (cost-to g _ _ _ (λ a e. ⊎_elim (λ p. inl (p, e.1)) (λ p. inr (p, e.1)) (or_cases (t a) (u a) e.0)) n c)

    module _ (some more : ℕ → Bool) (apart : Apart some more) (on_t : Depends some t) (on_u : Depends more u) where
      pub cost-all_fault : (n : ℕ) → SumOf (FaultCost g group some t) (TestCost g more u) n ⊎ SumOf (TestCost g some t) (FaultCost g group more u) n
          → FaultCost g group (λ v. some v || more v) (λ a. t a && u a) n
      cost-all_fault n s = ⊎_elim
          (λ x. cost-to g _ _ _ (λ a p. (and_from _ _ p.0.0 p.1, moved p.0.1 (or_left _ _ p.0.1.among) refl)) n (cost-and g some more _ _ apart (fault_local group some t on_t) (λ a b h e. on_u a b h ∙ e) n x))
          (λ x. cost-to g _ _ _ (λ a p. (and_from _ _ p.0 p.1.0, moved p.1.1 (or_right _ _ p.1.1.among) refl)) n (cost-and g some more _ _ apart (λ a b h e. on_t a b h ∙ e) (fault_local group more u on_u) n x)) s

      pub all_fault-costs : (n : ℕ) → FaultCost g group (λ v. some v || more v) (λ a. t a && u a) n
          → SumOf (FaultCost g group some t) (TestCost g more u) n ⊎ SumOf (TestCost g some t) (FaultCost g group more u) n
      all_fault-costs n c =
          let both = and_parts (t c.by) (u c.by) c.meets.0 in ⊎_elim
          (λ p. inl (and-costs g some more (IsFault group some t) (λ a. u a ≡ true) apart n (record { by = c.by; agrees = c.agrees; meets = ((both.0, moved c.meets.1 p refl), both.1); cost_is = c.cost_is })))
          (λ p. inr (and-costs g some more (λ a. t a ≡ true) (IsFault group more u) apart n (record { by = c.by; agrees = c.agrees; meets = (both.0, (both.1, moved c.meets.1 p refl)); cost_is = c.cost_is })))
          (or_cases (some c.meets.1.var) (more c.meets.1.var) c.meets.1.among)

  -- ---- rows

  module _ (limit : ℕ) (has : ℕ → Bool) where
    -- the same test over variables that hold the same parts
    pub row-fault : ((v : ℕ) → group v ≡ true → (1 ≤ v) × (v < 1 + g.parts)) → (t u : Assignment → Bool) (some more : ℕ → Bool) → ((a : Assignment) → t a ≡ u a) → Wider g.parts some more
        → IsRow has limit (FaultCost g group some t) → IsRow has limit (FaultCost g group more u)
    row-fault parts t u some more e wider is = row-cost g limit has some more _ _
        (λ a ag h. (sym (e a) ∙ h.0, moved h.1 (wider.within h.1.var h.1.among) refl))
        (λ a ag h. let p = parts h.1.var h.1.of_group in (e a ∙ h.0, moved h.1 (wider.same h.1.var p.0 p.1 ∙ h.1.among) refl)) wider.same is

    -- a faulty part of the group
    pub row-fault_one : OnlyParts g → (var : ℕ) → agrees_at (g.known var) false ≡ true → group var ≡ true → ((n : ℕ) → n < limit → has n ≡ (n == g.weight var false))
        → IsRow has limit (FaultCost g group (λ v. var == v) (λ a. same_bit false (a var)))
    row-fault_one only_parts var allowed marked one = row-as limit has _ _
        (λ n c. cost-to g _ _ _ (λ a e. (e, record { var = var; among = eq-eqb var var refl; of_group = marked; faulty = not-true (a var) e })) n c)
        (λ n c. cost-to g _ _ _ (λ a e. e.0) n c)
        (row-literal g limit has only_parts var false allowed one)
