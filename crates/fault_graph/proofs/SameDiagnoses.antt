-- A graph whose root replaces that of another has the same least cost and the same diagnoses.
use Rattle.std.proofs.Common.{◌≡◌, ℕ, zero, suc, ◌+◌, ◌-◌, ◌<◌, ◌≤◌, Bool, true, false, ◌&&◌, List, length, All, Option, Some, ap, sym, ◌∙◌, subst, arith}
use Rattle.std.specs.Prelude.{nat_le}
use Rattle.std.specs.List.{filter}
use Rattle.std.proofs.lemmas.Bool.{and_from, leb-true, cases_eq}
use Rattle.std.proofs.lemmas.List.{ext_get_or}
use Rattle.state_rules.specs.Cases.{agrees_at}
use Rattle.state_rules.specs.Ranking.{Test, cost, states, passing, is_at_most}
use Rattle.state_rules.proofs.Lists.{filter-filter}
use Rattle.state_rules.proofs.Members.{bits_length, filter_same}
use Rattle.state_rules.specs.Graphs.{Graph, is_true, mentions, IsGraph}
use Rattle.conditioner.specs.Models.{has_model, fits_evidence, models, least_under, diagnoses_under}
use Rattle.minimiser.specs.Costs.{part_cost, known_at, least_at}
use Rattle.minimiser.specs.inner.Held.{held_cost}
use Rattle.node_costs.specs.Costs.{total}
use Rattle.node_costs.proofs.Totals.{total-le}
use Rattle.minimiser.proofs.Costs.{fault, all_faults}
use Rattle.minimiser.proofs.LeastOfModels.{AddHeld, least_is, state_of, assignment_of}
use Rattle.fault_graph.proofs.LeastNodes.{StandsFor}
use Rattle.fault_graph.proofs.PlaceCosts.{high, over, place-cost}

-- ---- sums and bits

-- numbers that are each no greater, and together not less, are the same
total-same : (f g : ℕ → ℕ) → ((v : ℕ) → f v ≤ g v) → (a n : ℕ) → total g a n ≤ total f a n → (v : ℕ) → a ≤ v → v < a + n → g v ≤ f v
total-same f g h a zero few v low high = absurd (omega arith)
total-same f g h a (suc n) few v low high = grind (arith, f, total-le, h, cases_eq, total-same f g h (a + 1) n)

-- bits that agree with what is known, and have the same fault where a fault costs something, are the same
same_fault : (k : Option Bool) (w : ℕ) (x y : Bool) → 0 < w → agrees_at k x ≡ true → agrees_at k y ≡ true → fault k w x ≤ fault k w y → fault k w y ≤ fault k w x → x ≡ y
same_fault k w x y dear p q h g = grind arith

-- ---- what passes two tests

-- the diagnoses are the states that pass and cost at most the least
diagnoses-same : (costs : List ℕ) (n most : ℕ) (p q : Test) → ((h : List Bool) → length h ≡ n → p h ≡ true → cost costs h ≤ most → q h ≡ true) → ((h : List Bool) → length h ≡ n → q h ≡ true → cost costs h ≤ most → p h ≡ true)
    → filter (λ h. is_at_most (cost costs h) (Some most)) (passing n p) ≡ filter (λ h. is_at_most (cost costs h) (Some most)) (passing n q)
diagnoses-same costs n most p q to from =
    filter-filter (λ h. nat_le (cost costs h) most) p (states n)
    ∙ filter_same (λ h. p h && nat_le (cost costs h) most) (λ h. q h && nat_le (cost costs h) most) (states n)
    (λ h m. let l : length h ≡ n = bits_length n h m in grind (arith, to, from, leb-true, and_from))
    ∙ sym (filter-filter (λ h. nat_le (cost costs h) most) q (states n))

-- ---- the law

module _ (graph small : Graph) (evidence costs : List ℕ) (ok : IsGraph graph) (sound : IsGraph small) (vars : small.vars ≡ graph.vars) (long : length evidence ≡ graph.vars) (within : length costs ≤ graph.vars)
    (dear : All (λ c. 0 < c) costs) (c : ℕ) (is : least_at graph evidence costs (length graph.nodes - 1) ≡ Some c)
    (stands : StandsFor (known_at evidence) (part_cost costs) (length costs) (λ a. is_true graph.nodes (length graph.nodes - 1) a) (λ v. mentions graph.nodes v (length graph.nodes - 1)) c (λ a. is_true small.nodes (length small.nodes - 1) a)) where
  abbrev n : ℕ
  n = length costs

  long-small : length evidence ≡ small.vars
  long-small = long ∙ sym vars

  within-small : length costs ≤ small.vars
  within-small = omega arith

  pub graph-least : least_under graph evidence costs ≡ Some (held_cost costs evidence + c)
  graph-least = least_is graph evidence costs ok long within ∙ ap (AddHeld (held_cost costs evidence)) is

  pub small-least : least_under small evidence costs ≡ Some (held_cost costs evidence + c)
  small-least = least_is small evidence costs sound long-small within-small ∙ ap (AddHeld (held_cost costs evidence)) (place-cost graph small evidence costs ok sound _ _ c is stands)

  -- a state that the graph allows at the least cost is allowed by the other
  to : (h : List Bool) → length h ≡ n → has_model graph (fits_evidence evidence) n h ≡ true → cost costs h ≤ held_cost costs evidence + c → has_model small (fits_evidence evidence) n h ≡ true
  to h l m few =
      let a = assignment_of graph evidence costs ok long within h l m in
      let t = over graph small evidence costs ok sound _ _ c is stands a.by a.agrees a.holds (omega (arith, few, a.cost_is)) in
      let s = state_of small evidence costs sound long-small within-small a.by a.agrees t in
      let same : s.state ≡ h = ext_get_or false s.state h (s.long_state ∙ sym l) (λ i g. s.bits i (omega (arith, g, s.long_state)) ∙ sym (a.bits i (omega (arith, g, s.long_state)))) in
      subst (λ x. has_model small (fits_evidence evidence) n x ≡ true) same s.model

  -- and the other way round
  back : (h : List Bool) → length h ≡ n → has_model small (fits_evidence evidence) n h ≡ true → cost costs h ≤ held_cost costs evidence + c → has_model graph (fits_evidence evidence) n h ≡ true
  back h l m few =
      let b = assignment_of small evidence costs sound long-small within-small h l m in
      let w = stands.back b.by b.agrees b.holds in
      let s = state_of graph evidence costs ok long within w.by w.agrees w.holds in
      let most : all_faults (known_at evidence) (part_cost costs) n b.by ≤ c = omega (arith, few, b.cost_is) in
      let equal : all_faults (known_at evidence) (part_cost costs) n b.by ≤ all_faults (known_at evidence) (part_cost costs) n w.by = omega (arith, most, high graph small evidence costs ok sound _ _ c is stands w.by w.agrees w.holds) in
      let bit : (i : ℕ) → i < n → w.by (1 + i) ≡ b.by (1 + i) = λ i g. same_fault (known_at evidence (1 + i)) (part_cost costs (1 + i)) (w.by (1 + i)) (b.by (1 + i)) (costly i g) (w.agrees (1 + i)) (b.agrees (1 + i)) (w.fewer (1 + i))
      (total-same (λ v. fault (known_at evidence v) (part_cost costs v) (w.by v)) (λ v. fault (known_at evidence v) (part_cost costs v) (b.by v)) w.fewer 1 n equal (1 + i) (omega arith) (omega arith)) in
      let same : s.state ≡ h = ext_get_or false s.state h (s.long_state ∙ sym l)
      (λ i g. s.bits i (omega (arith, g, s.long_state)) ∙ bit i (omega (arith, g, s.long_state)) ∙ sym (b.bits i (omega (arith, g, s.long_state)))) in
      subst (λ x. has_model graph (fits_evidence evidence) n x ≡ true) same s.model where
        costly : (i : ℕ) → i < n → 0 < part_cost costs (1 + i)
        costly i g = let one_more : 1 + i ≡ suc i = omega arith in subst (λ v. 0 < part_cost costs v) (sym one_more) (dear i 0 g)

  pub same-diagnoses : diagnoses_under small evidence costs ≡ diagnoses_under graph evidence costs
  same-diagnoses =
      ap (λ (o : Option ℕ). filter (λ h. is_at_most (cost costs h) o) (models small evidence n)) small-least
      ∙ diagnoses-same costs n (held_cost costs evidence + c) (has_model small (fits_evidence evidence) n) (has_model graph (fits_evidence evidence) n) back to
      ∙ sym (ap (λ (o : Option ℕ). filter (λ h. is_at_most (cost costs h) o) (models graph evidence n)) graph-least)
