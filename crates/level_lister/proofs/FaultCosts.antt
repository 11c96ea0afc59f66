-- Sets of the costs at which a part of a group is faulty.
use Rattle.std.proofs.lemmas.Bool.Decides.{nat_tests}
use Rattle.std.proofs.Common.{◌≡◌, ℕ, ◌+◌, ◌-◌, ◌*◌, ◌<◌, ◌≤◌, Bool, true, false, not, ◌&&◌, ◌||◌, List, length, get_or, refl, ap, sym, ◌∙◌, arith}
use Rattle.std.specs.Prelude.{◌⊎◌, ◌==◌}
use Rattle.std.proofs.lemmas.Bool.{or_cases, or_left, eqb-true}
use Rattle.state_rules.specs.Assignments.{Assignment}
use Rattle.state_rules.specs.Bits.{same_bit}
use Rattle.state_rules.specs.Cases.{agrees_at}
use Rattle.node_costs.specs.Costs.{Weights}
use Rattle.node_costs.proofs.Sets.{row-as}
use Rattle.node_costs.proofs.Tests.{row-cost}
use Rattle.minimiser.specs.Costs.{known_at}
use Rattle.part_sets.specs.Numbers.{has_number}
use Rattle.level_lister.specs.inner.CostSets.{has_shifted, fault_weights, AreSums, IsCostSet}
use Rattle.level_lister.specs.inner.Pairs.{HasFault}
use Rattle.level_lister.specs.inner.FaultSets.{AreCostsOf, IsFaultSet, AreBothSets}
use Rattle.level_lister.proofs.PartVariables.{Wider}
use Rattle.level_lister.proofs.TestCosts.{only_parts, part_cost-at, wider_is}
use Rattle.level_lister.proofs.ConditionCosts.{or-row, sum-row, of_choice, of_faulty, and_is, choice_is}
use Rattle.level_lister.proofs.Faults.{IsFault, moved, fault_local, cost-any_fault, any_fault-costs, cost-all_fault, all_fault-costs, row-fault, row-fault_one}

module _ (evidence costs : List ℕ) (group : ℕ → Bool) (parts : (v : ℕ) → group v ≡ true → (1 ≤ v) × (v < 1 + length costs)) where
  -- more variables, without further parts
  pub fault_wider : (t : Assignment → Bool) (some more : ℕ → Bool) (set : List ℕ) → Wider (length costs) some more → IsFaultSet evidence costs group t some set → IsFaultSet evidence costs group t more set
  fault_wider t some more set wider is = row-fault (fault_weights evidence costs) group (32 * length set) (has_number set) parts t t some more (λ a. refl) wider is

  pub both_wider : (t : Assignment → Bool) (some more : ℕ → Bool) (set faults : List ℕ) → Wider (length costs) some more → AreBothSets evidence costs group t some set faults → AreBothSets evidence costs group t more set faults
  both_wider t some more set faults wider is = record { all = wider_is evidence costs t some more set wider is.all; faulty = fault_wider t some more faults wider is.faulty }

module _ (evidence costs : List ℕ) (group : ℕ → Bool) where
  abbrev g : Weights
  g = fault_weights evidence costs

  -- one of two tests of the same variables
  pub fault_or : (t u : Assignment → Bool) (some : ℕ → Bool) (left right set : List ℕ) → length left ≡ length set → length right ≡ length set
      → ((n : ℕ) → n < 32 * length set → has_number set n ≡ (has_number left n || has_shifted right 0 n))
      → IsFaultSet evidence costs group t some left → IsFaultSet evidence costs group u some right → IsFaultSet evidence costs group (λ a. t a || u a) some set
  fault_or t u some left right set l m joined is_t is_u = row-as (32 * length set) (has_number set) _ _ (cost-any_fault g group t u some) (any_fault-costs g group t u some) (or-row _ _ left right set l m joined is_t is_u)

  -- both of two tests that share no variable
  pub both_and : (t u : Assignment → Bool) (some more : ℕ → Bool) (set faults own_set own_faults one other new_set new_faults : List ℕ)
      → length set ≡ length new_set → length faults ≡ length new_set → length own_set ≡ length new_set → length own_faults ≡ length new_set
      → length one ≡ length new_set → length other ≡ length new_set → length new_faults ≡ length new_set → ((v : ℕ) → (some v && more v) ≡ false)
      → AreSums set own_set (32 * length new_set) new_set → AreSums faults own_set (32 * length one) one → AreSums set own_faults (32 * length other) other
      → ((n : ℕ) → n < 32 * length new_faults → has_number new_faults n ≡ (has_number one n || has_shifted other 0 n))
      → AreBothSets evidence costs group t some set faults → AreBothSets evidence costs group u more own_set own_faults
      → AreBothSets evidence costs group (λ a. t a && u a) (λ v. some v || more v) new_set new_faults
  both_and t u some more set faults own_set own_faults one other new_set new_faults l_set l_faults l_own_set l_own_faults l_one l_other l_new apart sums sums_one sums_other joined is_t is_u = record {
    all = and_is evidence costs t u some more set own_set new_set l_set l_own_set apart sums is_t.all is_u.all;
    faulty = row-as (32 * length new_faults) (has_number new_faults) _ _ (cost-all_fault g group t u some more apart is_t.all.local is_u.all.local) (all_fault-costs g group t u some more apart is_t.all.local is_u.all.local)
        (or-row _ _ one other new_faults (l_one ∙ sym l_new) (l_other ∙ sym l_new) joined
        (sum-row _ _ faults own_set one (l_faults ∙ sym l_one) (l_own_set ∙ sym l_one) sums_one is_t.faulty is_u.all.row)
        (sum-row _ _ set own_faults other (l_set ∙ sym l_other) (l_own_faults ∙ sym l_other) sums_other is_t.all.row is_u.faulty));
  }

  -- ---- one more free part
  module _ (t : Assignment → Bool) (some : ℕ → Bool) (p : ℕ) (out : some (p + 1) ≡ false) (small : get_or evidence p 0 < 3) (set faults new_set mid : List ℕ)
      (long : length set ≡ length new_set) (same_long : length faults ≡ length mid)
      (made : (n : ℕ) → n < 32 * length new_set → has_number new_set n ≡ ((not (get_or evidence p 0 == 2) && has_number set n) || (not (get_or evidence p 0 == 1) && has_shifted set (get_or costs p 0) n)))
      (made_faults : (n : ℕ) → n < 32 * length mid → has_number mid n ≡ ((not (get_or evidence p 0 == 2) && has_number faults n) || (not (get_or evidence p 0 == 1) && has_shifted faults (get_or costs p 0) n)))
      (is : AreBothSets evidence costs group t some set faults) where
    wider_set : IsCostSet evidence costs t (λ v. some v || (p + 1 == v)) new_set
    wider_set = choice_is evidence costs t some p set new_set small out long made is.all

    wider_faults : AreCostsOf evidence costs (λ v. some v || (p + 1 == v)) (IsFault group some t) mid
    wider_faults = of_choice evidence costs some (IsFault group some t) p out (fault_local group some t is.all.local) faults mid small same_long made_faults is.faulty

    wider_fault : (a : Assignment) → HasFault group some a → HasFault group (λ v. some v || (p + 1 == v)) a
    wider_fault a f = moved f (or_left _ _ f.among) refl

    -- if it is not in the group
    pub free_unmarked : group (p + 1) ≡ false → AreBothSets evidence costs group t (λ v. some v || (p + 1 == v)) new_set mid
    free_unmarked none = record {
      all = wider_set;
      faulty = row-cost g (32 * length mid) (has_number mid) _ _ _ _ (λ a f h. (h.0, wider_fault a h.1)) (λ a f h. (h.0, back a h.1)) (λ v l h. refl) wider_faults;
    } where
      back : (a : Assignment) → HasFault group (λ v. some v || (p + 1 == v)) a → HasFault group some a
      back a f = grind (arith, nat_tests, eqb-true, or_cases)

    -- if it is in the group and open
    pub free_marked : (new_faults : List ℕ) → group (p + 1) ≡ true → get_or evidence p 0 ≡ 0 → length set ≡ length new_faults → length mid ≡ length new_faults
        → ((n : ℕ) → n < 32 * length new_faults → has_number new_faults n ≡ (has_number mid n || has_shifted set (get_or costs p 0) n))
        → AreBothSets evidence costs group t (λ v. some v || (p + 1 == v)) new_set new_faults
    free_marked new_faults marked free l m added = record {
      all = wider_set;
      faulty = row-cost g (32 * length new_faults) (has_number new_faults) _ _ _ _ (λ a f s. to a s) (λ a f h. from a h) (λ v l h. refl)
          (of_faulty evidence costs some (λ a. t a ≡ true) p out (λ a b h e. is.all.local a b h ∙ e) (IsFault group some t) set mid new_faults free l m added is.all.row wider_faults);
    } where
      to : (a : Assignment) → ((t a ≡ true) × HasFault group some a) ⊎ ((t a ≡ true) × (a (p + 1) ≡ false)) → (t a ≡ true) × HasFault group (λ v. some v || (p + 1 == v)) a
      to a s = grind (arith, nat_tests)

      from : (a : Assignment) → (t a ≡ true) × HasFault group (λ v. some v || (p + 1 == v)) a → ((t a ≡ true) × HasFault group some a) ⊎ ((t a ≡ true) × (a (p + 1) ≡ false))
      from a h = grind (arith, nat_tests, eqb-true, or_cases)

  -- ---- a literal

  -- a faulty part of the group
  pub fault_one : (var : ℕ) → 1 ≤ var → (cost : ℕ) (set : List ℕ) → cost ≡ get_or costs (var - 1) 0 → agrees_at (known_at evidence var) false ≡ true → group var ≡ true → ((n : ℕ) → n < 32 * length set → has_number set n ≡ (n == cost))
      → IsFaultSet evidence costs group (λ a. same_bit false (a var)) (λ v. var == v) set
  fault_one var low cost set cost_is allowed marked one = row-fault_one g group (32 * length set) (has_number set) (only_parts evidence costs) var allowed marked
      (λ n lt. one n lt ∙ ap (λ c. n == c) (cost_is ∙ part_cost-at costs var low))
