-- Sets of the costs of a condition and of a test.
use Rattle.std.proofs.Common.{◌≡◌, ℕ, ◌+◌, ◌-◌, ◌*◌, ◌<◌, Bool, true, false, not, ◌&&◌, ◌||◌, List, length, get_or, ap, sym, ◌∙◌, subst, arith, inl, inr, ⊎_elim}
use Rattle.std.specs.Prelude.{◌⊎◌, ◌==◌}
use Rattle.std.proofs.lemmas.Bool.{or_left}
use Rattle.state_rules.specs.Assignments.{Assignment}
use Rattle.state_rules.specs.Cases.{agrees_at}
use Rattle.conditioner.specs.Evidence.{known_of}
use Rattle.node_costs.specs.Costs.{Weights, CostOf, SumOf, Local, IsRow}
use Rattle.node_costs.proofs.Conditions.{cost-or, or-costs, cost-set, set-costs, cost-either, either-costs}
use Rattle.node_costs.proofs.Sets.{row-as, row-or, row-sum, row-bit}
use Rattle.node_costs.proofs.Tests.{cost-any, any-costs, cost-all, all-costs, depends-all}
use Rattle.minimiser.specs.Costs.{known_at, part_cost}
use Rattle.part_sets.specs.Numbers.{has_number}
use Rattle.level_lister.specs.inner.CostSets.{has_shifted, fault_weights, AreSums, IsCostSet}
use Rattle.level_lister.specs.inner.FaultSets.{AreCostsOf}
use Rattle.level_lister.proofs.TestCosts.{only_parts, part_cost-at}

-- a set of the same length says as much
resized : (C : ℕ → Type 0) (left set : List ℕ) → length left ≡ length set → IsRow (has_number left) (32 * length left) C → IsRow (has_number left) (32 * length set) C
resized C left set l is = subst (λ n. IsRow (has_number left) (32 * n) C) l is

-- the row of the sums
sums-row : (left right set : List ℕ) → AreSums left right (32 * length set) set → IsRow (has_number set) (32 * length set) (SumOf (λ j. has_number left j ≡ true) (λ k. has_number right k ≡ true))
sums-row left right set sums = grind arith

-- a set that is moved by 0
unmoved : (set : List ℕ) (n : ℕ) → has_shifted set 0 n ≡ has_number set n
unmoved set n = grind arith

pub or-row : (C D : ℕ → Type 0) (left right set : List ℕ) → length left ≡ length set → length right ≡ length set → ((n : ℕ) → n < 32 * length set → has_number set n ≡ (has_number left n || has_shifted right 0 n))
    → IsRow (has_number left) (32 * length left) C → IsRow (has_number right) (32 * length right) D → IsRow (has_number set) (32 * length set) (λ n. C n ⊎ D n)
or-row C D left right set l m joined is_c is_d = row-or (32 * length set) (has_number left) (has_number right) (has_number set) C D (λ n lt. joined n lt ∙ ap (λ b. has_number left n || b) (unmoved right n)) (resized C left set l is_c) (resized D right set m is_d)

pub sum-row : (C D : ℕ → Type 0) (left right set : List ℕ) → length left ≡ length set → length right ≡ length set → AreSums left right (32 * length set) set
    → IsRow (has_number left) (32 * length left) C → IsRow (has_number right) (32 * length right) D → IsRow (has_number set) (32 * length set) (SumOf C D)
sum-row C D left right set l m sums is_c is_d = row-sum (32 * length set) (has_number left) (has_number right) (has_number set) C D (sums-row left right set sums) (resized C left set l is_c) (resized D right set m is_d)

-- what a word of a part allows
not_two : (w : ℕ) → w < 3 → not (w == 2) ≡ agrees_at (known_of w) true
not_two w h = grind arith

not_one : (w : ℕ) → not (w == 1) ≡ agrees_at (known_of w) false
not_one w = grind arith

module _ (evidence costs : List ℕ) where
  abbrev g : Weights
  g = fault_weights evidence costs

  -- ---- one more part
  module _ (some : ℕ → Bool) (P : Assignment → Type 0) (p : ℕ) (out : some (p + 1) ≡ false) (local : Local some P) where
    place : p ≡ p + 1 - 1
    place = omega arith

    price : get_or costs p 0 ≡ part_cost costs (p + 1)
    price = ap (λ k. get_or costs k 0) place ∙ part_cost-at costs (p + 1) (omega arith)

    word : (bit : Bool) → agrees_at (known_of (get_or evidence p 0)) bit ≡ agrees_at (known_at evidence (p + 1)) bit
    word bit = ap (λ k. agrees_at (known_of (get_or evidence k 0)) bit) place

    -- it is as free as its word leaves it
    pub of_choice : (old set : List ℕ) → get_or evidence p 0 < 3 → length old ≡ length set
        → ((n : ℕ) → n < 32 * length set → has_number set n ≡ ((not (get_or evidence p 0 == 2) && has_number old n) || (not (get_or evidence p 0 == 1) && has_shifted old (get_or costs p 0) n)))
        → AreCostsOf evidence costs some P old → AreCostsOf evidence costs (λ v. some v || (p + 1 == v)) P set
    of_choice old set small long made is =
        let row = resized (CostOf g some P) old set long is in
        row-as (32 * length set) (has_number set) _ _ (cost-either g (only_parts evidence costs) some P (p + 1) out local) (either-costs g (only_parts evidence costs) some P (p + 1) out local)
        (row-or (32 * length set) _ _ (has_number set) _ _
        (λ n lt. made n lt
        ∙ (λ i. ((not_two (get_or evidence p 0) small ∙ word true) i && sym (unmoved old n) i) || ((not_one (get_or evidence p 0) ∙ word false) i && has_shifted old (price i) n)))
        (row-bit (32 * length set) g (p + 1) true (has_number old) _ row) (row-bit (32 * length set) g (p + 1) false (has_number old) _ row))

    -- with a fault, if it is open and faulty
    pub of_faulty : (Q : Assignment → Type 0) (old left set : List ℕ) → get_or evidence p 0 ≡ 0 → length old ≡ length set → length left ≡ length set
        → ((n : ℕ) → n < 32 * length set → has_number set n ≡ (has_number left n || has_shifted old (get_or costs p 0) n))
        → AreCostsOf evidence costs some P old → AreCostsOf evidence costs (λ v. some v || (p + 1 == v)) Q left
        → AreCostsOf evidence costs (λ v. some v || (p + 1 == v)) (λ a. Q a ⊎ (P a × (a (p + 1) ≡ false))) set
    of_faulty Q old left set free l m made is_p is_q =
        row-as (32 * length set) (has_number set) _ _
        (λ n s. cost-or g _ _ _ n (⊎_elim (λ x. inl x) (λ x. inr (cost-set g (only_parts evidence costs) some P (p + 1) out local false n x)) s))
        (λ n c. ⊎_elim (λ x. inl x) (λ x. inr (set-costs g (only_parts evidence costs) some P (p + 1) out local false n x)) (or-costs g _ _ _ n c))
        (row-or (32 * length set) (has_number left) _ (has_number set) _ _
        (λ n lt. made n lt ∙ (λ i. has_number left n || ((ap (λ w. agrees_at (known_of w) false) (sym free) ∙ word false) i && has_shifted old (price i) n)))
        (resized _ left set m is_q) (row-bit (32 * length set) g (p + 1) false (has_number old) _ (resized _ old set l is_p)))

  -- ---- the sets of tests

  -- one of two tests over the same variables
  pub or_is : (t u : Assignment → Bool) (some : ℕ → Bool) (left right set : List ℕ) → length left ≡ length set → length right ≡ length set
      → ((n : ℕ) → n < 32 * length set → has_number set n ≡ (has_number left n || has_shifted right 0 n))
      → IsCostSet evidence costs t some left → IsCostSet evidence costs u some right → IsCostSet evidence costs (λ a. t a || u a) some set
  or_is t u some left right set l m joined is_t is_u = record {
    row = row-as (32 * length set) (has_number set) _ _ (cost-any g t u some) (any-costs g t u some) (or-row _ _ left right set l m joined is_t.row is_u.row);
    local = λ a b h. (λ i. is_t.local a b h i || is_u.local a b h i);
  }

  -- both of two tests that share no variable
  pub and_is : (t u : Assignment → Bool) (some more : ℕ → Bool) (left right set : List ℕ) → length left ≡ length set → length right ≡ length set → ((v : ℕ) → (some v && more v) ≡ false)
      → AreSums left right (32 * length set) set → IsCostSet evidence costs t some left → IsCostSet evidence costs u more right → IsCostSet evidence costs (λ a. t a && u a) (λ v. some v || more v) set
  and_is t u some more left right set l m apart sums is_t is_u = record {
    row = row-as (32 * length set) (has_number set) _ _ (cost-all g t u some more apart is_t.local is_u.local) (all-costs g t u some more apart is_t.local is_u.local) (sum-row _ _ left right set l m sums is_t.row is_u.row);
    local = depends-all g t u some more is_t.local is_u.local;
  }

  -- one more part, as free as its word leaves it
  pub choice_is : (t : Assignment → Bool) (some : ℕ → Bool) (p : ℕ) (old set : List ℕ) → get_or evidence p 0 < 3 → some (p + 1) ≡ false → length old ≡ length set
      → ((n : ℕ) → n < 32 * length set → has_number set n ≡ ((not (get_or evidence p 0 == 2) && has_number old n) || (not (get_or evidence p 0 == 1) && has_shifted old (get_or costs p 0) n)))
      → IsCostSet evidence costs t some old → IsCostSet evidence costs t (λ v. some v || (p + 1 == v)) set
  choice_is t some p old set small out long made is = record {
    row = of_choice some (λ a. t a ≡ true) p out (λ a b h e. is.local a b h ∙ e) old set small long made is.row;
    local = λ a b h. is.local a b (λ v q. h v (or_left _ _ q));
  }
