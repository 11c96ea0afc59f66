-- What the words of the whole graph say of the states that the evidence allows.
use Rattle.std.proofs.Common.{◌≡◌, ℕ, ◌+◌, ◌-◌, ◌*◌, ◌<◌, ◌≤◌, true, List, length, sym, ◌∙◌, subst, arith}
use Rattle.state_rules.specs.Assignments.{Assignment}
use Rattle.state_rules.specs.Graphs.{Graph, IsGraph, is_true}
use Rattle.state_rules.specs.Bits.{has_bit}
use Rattle.node_costs.specs.Costs.{cost_among}
use Rattle.minimiser.proofs.LeastOfModels.{state_of, assignment_of}
use Rattle.level_lister.specs.declared.pairs.Pair.{Pair}
use Rattle.level_lister.specs.declared.groups.Groups.{Groups}
use Rattle.level_lister.specs.inner.CostSets.{fault_weights}
use Rattle.level_lister.specs.inner.Pairs.{TellsWhole, FaultOf, group_count}
use Rattle.level_lister.specs.inner.Searching.{HasCost}
use Rattle.level_lister.specs.inner.Skips.{living, IsEnough}
use Rattle.level_lister.proofs.LivingNodes.{living-true}
use Rattle.level_lister.proofs.RootCosts.{cost_among-all}
use Rattle.level_lister.proofs.FaultStates.{fault_state, state_fault}

module _ (graph : Graph) (skips evidence costs : List ℕ) (top : ℕ) (groups : Groups) (pair : Pair) (ok : IsGraph graph) (long : length evidence ≡ graph.vars) (within : length costs ≤ graph.vars) (tells : TellsWhole graph skips evidence costs top groups pair)
    (enough : IsEnough graph skips evidence costs top) where
  root_true : (a : Assignment) → is_true (living graph.nodes skips) (length graph.nodes - 1) a ≡ true → is_true graph.nodes (length graph.nodes - 1) a ≡ true
  root_true a e = living-true graph skips ok (length graph.nodes - 1) (omega (arith, ok.some)) a e

  pub pair_sound : (c : ℕ) → c ≤ top → has_bit pair.costs c ≡ true → HasCost graph evidence costs c
  pair_sound c le e =
      let place : c ≡ 1 * c + 0 = omega arith in
      let r = tells.cost_bits.sound c (omega arith) (subst (λ n. has_bit pair.costs n ≡ true) place e) in
      let s = state_of graph evidence costs ok long within r.by r.agrees (root_true r.by r.meets) in
      record { state = s.state; is = record { long = s.long_state; model = s.model; cost_is = cost_among-all evidence r.by costs s.state s.long_state s.bits ∙ r.cost_is } }

  pub pair_whole : (c : ℕ) → c ≤ top → HasCost graph evidence costs c → has_bit pair.costs c ≡ true
  pair_whole c le has =
      let h = has.state in
      let a = assignment_of graph evidence costs ok long within h has.is.long has.is.model in
      let total : cost_among (fault_weights evidence costs) (λ v. true) a.by ≡ c = sym (cost_among-all evidence a.by costs h has.is.long a.bits) ∙ has.is.cost_is in
      let place : 1 * c + 0 ≡ c = omega arith in
      subst (λ n. has_bit pair.costs n ≡ true) place
      (tells.cost_bits.whole c (omega arith) (record { by = a.by; agrees = a.agrees; meets = enough.left a.by a.agrees a.holds (omega (arith, total)); cost_is = total }))

  pub group_sound : (c g : ℕ) → c ≤ top → g < group_count top → has_bit pair.faults (group_count top * c + g) ≡ true → FaultOf graph evidence costs c groups g
  group_sound c g le lt e =
      let r = (tells.fault_bits g lt).sound c (omega arith) e in
      fault_state graph evidence costs groups ok long within g c (record { by = r.by; agrees = r.agrees; meets = (root_true r.by r.meets.0, r.meets.1); cost_is = r.cost_is })

  pub group_whole : (c g : ℕ) → c ≤ top → g < group_count top → FaultOf graph evidence costs c groups g → has_bit pair.faults (group_count top * c + g) ≡ true
  group_whole c g le lt f =
      let r = state_fault graph evidence costs groups ok long within g c f in
      (tells.fault_bits g lt).whole c (omega arith) (record { by = r.by; agrees = r.agrees; meets = (enough.left r.by r.agrees r.meets.0 (omega (arith, r.cost_is)), r.meets.1); cost_is = r.cost_is })
