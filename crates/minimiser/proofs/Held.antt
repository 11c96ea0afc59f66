-- The cost of the parts that are held to be faulty, one after the other; and the cost of all parts.
use Rattle.std.proofs.Common.{◌≡◌, ℕ, zero, suc, ◌+◌, ◌<◌, ◌≤◌, List, [], ◌∷◌, length, get_or, drop, refl, arith}
use Rattle.std.proofs.lemmas.List.{drop_all, drop_more}
use Rattle.std.proofs.lemmas.List.Sums.{sum_by-cons, sum_by-drop_more}
use Rattle.conditioner.specs.Models.{total_cost}
use Rattle.conditioner.specs.Evidence.{known_of}
use Rattle.minimiser.specs.Costs.{part_cost}
use Rattle.minimiser.specs.inner.Held.{held_one, held_cost}
use Rattle.node_costs.specs.Costs.{total}

pub held-drop : (costs evidence : List ℕ) (i : ℕ) → i < length costs → i < length evidence
    → held_cost (drop i costs) (drop i evidence) ≡ held_one (get_or costs i 0) (known_of (get_or evidence i 0)) + held_cost (drop (i + 1) costs) (drop (i + 1) evidence)
held-drop costs evidence i h g = rw (drop_more costs i 0 h, drop_more evidence i 0 g) refl

pub held-end : (costs evidence : List ℕ) (i : ℕ) → length costs ≤ i → held_cost (drop i costs) (drop i evidence) ≡ 0
held-end costs evidence i h = rw (drop_all i costs h) refl

pub total-drop : (costs : List ℕ) (i : ℕ) → i < length costs → total_cost (drop i costs) ≡ get_or costs i 0 + total_cost (drop (i + 1) costs)
total-drop costs i h = sum_by-drop_more (λ c. c) costs i 0 h

pub ruleset held_steps = (held-drop, held-end, total-drop)

total_is : (f : ℕ → ℕ) (a : ℕ) (costs : List ℕ) → ((i : ℕ) → i < length costs → f (a + i) ≡ get_or costs i 0) → total f a (length costs) ≡ total_cost costs
total_is f a [] h = refl
total_is f a (c ∷ costs) h =
    let here : f a ≡ c = let e : a + 0 ≡ a = omega arith in rw e at (h zero (omega arith)) in
    let rest = total_is f (a + 1) costs (λ i g. let e : a + suc i ≡ a + 1 + i = omega arith in rw e at (h (suc i) (omega arith))) in
    omega (arith, here, rest, sum_by-cons (λ (x : ℕ). x) c costs)

-- the parts' own costs, summed over their variables
pub full_cost-is : (costs : List ℕ) → total (part_cost costs) 1 (length costs) ≡ total_cost costs
full_cost-is costs = grind (arith, total_is)
