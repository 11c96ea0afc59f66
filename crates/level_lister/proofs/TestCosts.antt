-- The set of costs of a test: never true, always true, a literal, the same test, or one of more variables.
use Rattle.std.proofs.lemmas.Bool.Decides.{nat_tests}
use Rattle.std.proofs.Common.{◌≡◌, ℕ, zero, suc, ◌-◌, ◌*◌, ◌<◌, ◌≤◌, Bool, true, false, cond, List, length, get_or, Option, refl, ap, sym, ◌∙◌, arith}
use Rattle.std.specs.Prelude.{◌==◌}
use Rattle.std.proofs.lemmas.Bool.{eq-eqb, false≢true}
use Rattle.state_rules.specs.Bits.{same_bit}
use Rattle.state_rules.specs.Cases.{agrees_at}
use Rattle.state_rules.specs.Assignments.{Assignment}
use Rattle.conditioner.specs.declared.leaves.Leaf.TheVariants.{False}
use Rattle.conditioner.specs.Evidence.{leaf_of}
use Rattle.node_costs.specs.Costs.{Weights}
use Rattle.node_costs.proofs.Conditions.{OnlyParts, cost_among-none, cost-none, literal-costs}
use Rattle.node_costs.proofs.Sets.{row-none, row-one}
use Rattle.node_costs.proofs.Tests.{row-cost, row-literal}
use Rattle.minimiser.specs.Costs.{known_at, part_cost}
use Rattle.minimiser.proofs.LeastOfModels.{part_cost-none}
use Rattle.part_sets.specs.Numbers.{has_number}
use Rattle.level_lister.specs.inner.CostSets.{fault_weights, IsCostSet}
use Rattle.level_lister.proofs.PartVariables.{Wider}

-- a literal that its word allows, or does not
pub allowed_by : (k : Option Bool) (positive : Bool) → (leaf_of positive k ≡ False → ⊥) → agrees_at k positive ≡ true
allowed_by k positive h = grind (arith, nat_tests)

ruled_out : (k : Option Bool) (positive : Bool) → leaf_of positive k ≡ False → agrees_at k positive ≡ true → ⊥
ruled_out k positive e f = grind (arith, nat_tests)

pub part_cost-at : (costs : List ℕ) (var : ℕ) → 1 ≤ var → get_or costs (var - 1) 0 ≡ part_cost costs var
part_cost-at costs zero h = absurd (omega arith)
part_cost-at costs (suc i) h = ap (λ k. get_or costs k 0) (omega arith)

module _ (evidence costs : List ℕ) where
  abbrev g : Weights
  g = fault_weights evidence costs

  pub only_parts : OnlyParts (fault_weights evidence costs)
  only_parts v true out = refl
  only_parts v false out = part_cost-none costs v out

  pub empty_is : (some : ℕ → Bool) (set : List ℕ) → ((n : ℕ) → has_number set n ≡ false) → IsCostSet evidence costs (λ a. false) some set
  empty_is some set none = record { row = row-none _ (has_number set) _ (λ n lt. none n) (λ n c. false≢true c.meets); local = λ a b h. refl }

  pub zero_is : (set : List ℕ) → ((n : ℕ) → n < 32 * length set → has_number set n ≡ (n == 0)) → IsCostSet evidence costs (λ a. true) (λ v. false) set
  zero_is set one = record {
    row = row-one _ (has_number set) _ 0 (cost-none g (λ a. true ≡ true) refl) (λ n c. sym c.cost_is ∙ cost_among-none g c.by) one;
    local = λ a b h. refl;
  }

  -- more variables, without further parts
  pub wider_is : (t : Assignment → Bool) (some more : ℕ → Bool) (set : List ℕ) → Wider (length costs) some more → IsCostSet evidence costs t some set → IsCostSet evidence costs t more set
  wider_is t some more set wider is = record {
    row = row-cost g _ (has_number set) some more _ _ (λ a ag h. h) (λ a ag h. h) wider.same is.row;
    local = λ a b h. is.local a b (λ v p. h v (wider.within v p));
  }

  -- a literal that its word rules out
  pub false_literal_is : (var : ℕ) (positive : Bool) (set : List ℕ) → leaf_of positive (known_at evidence var) ≡ False → ((n : ℕ) → has_number set n ≡ false)
      → IsCostSet evidence costs (λ a. same_bit positive (a var)) (λ v. var == v) set
  false_literal_is var positive set e none = record {
    row = row-none _ (has_number set) _ (λ n lt. none n) (λ n c. ruled_out (known_at evidence var) positive e (literal-costs g only_parts var positive n c).allowed);
    local = λ a b h. ap (same_bit positive) (h var (eq-eqb var var refl));
  }

  -- a literal that its word allows
  pub literal_is : (var : ℕ) (positive : Bool) (set : List ℕ) → (leaf_of positive (known_at evidence var) ≡ False → ⊥) → ((n : ℕ) → n < 32 * length set → has_number set n ≡ (n == cond positive 0 (part_cost costs var)))
      → IsCostSet evidence costs (λ a. same_bit positive (a var)) (λ v. var == v) set
  literal_is var positive set allowed one = record {
    row = row-literal g _ (has_number set) only_parts var positive (allowed_by (known_at evidence var) positive allowed) one;
    local = λ a b h. ap (same_bit positive) (h var (eq-eqb var var refl));
  }
