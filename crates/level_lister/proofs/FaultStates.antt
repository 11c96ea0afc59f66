-- The states in which an open part of a group is faulty, and assignments with these states.
use Rattle.std.proofs.Common.{◌≡◌, ℕ, ◌+◌, ◌-◌, ◌*◌, ◌<◌, ◌≤◌, true, List, length, refl, ap, sym, ◌∙◌, arith}
use Rattle.state_rules.specs.Graphs.{Graph, IsGraph, is_true}
use Rattle.node_costs.specs.Costs.{CostOf}
use Rattle.part_sets.proofs.SetBits.{has-within}
use Rattle.level_lister.specs.inner.CostSets.{fault_weights}
use Rattle.minimiser.proofs.LeastOfModels.{state_of, assignment_of}
use Rattle.part_sets.specs.Numbers.{has_number}
use Rattle.level_lister.specs.declared.groups.Groups.{Groups}
use Rattle.level_lister.specs.inner.Pairs.{HasFault, FaultOf, group_in}
use Rattle.level_lister.specs.inner.FaultSets.{IsWholeFaults}
use Rattle.level_lister.specs.inner.Skips.{IsEnough}
use Rattle.level_lister.proofs.LivingNodes.{living-true}
use Rattle.level_lister.proofs.RootCosts.{cost_among-all}
use Rattle.level_lister.proofs.PairNodes.{grouped, in_group}

module _ (graph : Graph) (evidence costs : List ℕ) (groups : Groups) (ok : IsGraph graph) (long : length evidence ≡ graph.vars) (within : length costs ≤ graph.vars) where
  -- the last node is true, and a part of a group is faulty
  abbrev pub HasWholeFault : ℕ → ℕ → Type 0
  HasWholeFault g c = CostOf (fault_weights evidence costs) (λ v. true) (λ a. (is_true graph.nodes (length graph.nodes - 1) a ≡ true) × HasFault (group_in evidence (length costs) groups g) (λ v. true) a) c

  pub fault_state : (g c : ℕ) → HasWholeFault g c → FaultOf graph evidence costs c groups g
  fault_state g c r =
      let s = state_of graph evidence costs ok long within r.by r.agrees r.meets.0 in
      let fault = r.meets.1 in
      let is = grouped evidence (length costs) groups g fault.var fault.of_group in
      let inside : fault.var - 1 < length costs = omega (arith, is.low, is.high) in
      let place : 1 + (fault.var - 1) ≡ fault.var = omega (arith, is.low) in
      record {
        state = s.state;
        is = record { long = s.long_state; model = s.model; cost_is = cost_among-all evidence r.by costs s.state s.long_state s.bits ∙ r.cost_is };
        part = fault.var - 1;
        within = inside;
        open_ = is.open_;
        faulty = s.bits (fault.var - 1) inside ∙ ap r.by place ∙ fault.faulty;
        low = omega (arith, is.low);
        group = is.group;
      }

  pub state_fault : (g c : ℕ) → FaultOf graph evidence costs c groups g → HasWholeFault g c
  state_fault g c f =
      let h = f.state in
      let a = assignment_of graph evidence costs ok long within h f.is.long f.is.model in
      let place : 1 + f.part ≡ f.part + 1 = omega arith in
      let fault : HasFault (group_in evidence (length costs) groups g) (λ v. true) a.by = record {
        var = f.part + 1;
        among = refl;
        of_group = in_group evidence (length costs) groups g (f.part + 1) (grind arith);
        faulty = ap a.by (sym place) ∙ sym (a.bits f.part f.within) ∙ f.faulty;
      } in
      record { by = a.by; agrees = a.agrees; meets = (a.holds, fault); cost_is = sym (cost_among-all evidence a.by costs h f.is.long a.bits) ∙ f.is.cost_is }

  -- the set of the whole graph with a fault
  module _ (skips : List ℕ) (top : ℕ) (enough : IsEnough graph skips evidence costs top) (set : List ℕ) (is : IsWholeFaults graph skips evidence costs groups set) where
    pub first_sound : (c : ℕ) → has_number set c ≡ true → FaultOf graph evidence costs c groups 0
    first_sound c e =
        let r = is.sound c (has-within set c e) e in
        fault_state 0 c (record { by = r.by; agrees = r.agrees; meets = (living-true graph skips ok (length graph.nodes - 1) (omega (arith, ok.some)) r.by r.meets.0, r.meets.1); cost_is = r.cost_is })

    pub first_whole : (c : ℕ) → c ≤ top → c < 32 * length set → FaultOf graph evidence costs c groups 0 → has_number set c ≡ true
    first_whole c le lt f =
        let r = state_fault 0 c f in
        is.whole c lt (record { by = r.by; agrees = r.agrees; meets = (enough.left r.by r.agrees r.meets.0 (omega (arith, r.cost_is)), r.meets.1); cost_is = r.cost_is })
