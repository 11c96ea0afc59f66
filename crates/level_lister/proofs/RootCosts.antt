-- The set of the whole graph has exactly the costs of the states that the evidence allows.
use Rattle.std.proofs.Common.{◌≡◌, ℕ, suc, ◌+◌, ◌-◌, ◌*◌, ◌<◌, ◌≤◌, Bool, true, cond, List, length, sym, ◌∙◌, arith}
use Rattle.state_rules.specs.Assignments.{Assignment}
use Rattle.state_rules.specs.Bits.{bit_in}
use Rattle.state_rules.specs.Ranking.{cost}
use Rattle.state_rules.specs.Graphs.{Graph, IsGraph}
use Rattle.minimiser.proofs.LeastOfModels.{state_of, assignment_of}
use Rattle.node_costs.specs.Costs.{cost_among}
use Rattle.node_costs.proofs.States.{cost-total}
use Rattle.minimiser.specs.Costs.{part_cost}
use Rattle.part_sets.proofs.SetBits.{has-within}
use Rattle.part_sets.specs.Numbers.{has_number}
use Rattle.level_lister.specs.inner.CostSets.{fault_weights}
use Rattle.level_lister.specs.inner.NodeSets.{IsWholeSet}
use Rattle.level_lister.specs.inner.Searching.{HasCost}
use Rattle.level_lister.specs.inner.Skips.{IsEnough}
use Rattle.level_lister.proofs.LivingNodes.{living-true}

-- the cost of a state is that of its faulty parts
pub cost_among-all : (evidence : List ℕ) (a : Assignment) (costs : List ℕ) (h : List Bool) → length h ≡ length costs → ((i : ℕ) → i < length costs → bit_in h i ≡ a (1 + i)) → cost costs h ≡ cost_among (fault_weights evidence costs) (λ v. true) a
cost_among-all evidence a costs h l e = cost-total (λ v. cond (a v) 0 (part_cost costs v)) 1 costs h l (λ i lt. (λ j. cond (sym (e i lt) j) 0 (part_cost costs (one_more i j)))) where
  one_more : (i : ℕ) → 1 + i ≡ suc i
  one_more i = omega arith

module _ (graph : Graph) (skips evidence costs set : List ℕ) (top : ℕ) (enough : IsEnough graph skips evidence costs top) (ok : IsGraph graph) (long : length evidence ≡ graph.vars) (within : length costs ≤ graph.vars)
    (is : IsWholeSet graph skips evidence costs set) where
  pub whole_sound : (c : ℕ) → has_number set c ≡ true → HasCost graph evidence costs c
  whole_sound c e =
      let r = is.row.sound c (has-within set c e) e in
      let s = state_of graph evidence costs ok long within r.by r.agrees (living-true graph skips ok (length graph.nodes - 1) (omega (arith, ok.some)) r.by r.meets) in
      record { state = s.state; is = record { long = s.long_state; model = s.model; cost_is = cost_among-all evidence r.by costs s.state s.long_state s.bits ∙ r.cost_is } }

  pub whole_all : (c : ℕ) → c ≤ top → c < 32 * length set → HasCost graph evidence costs c → has_number set c ≡ true
  whole_all c le lt has =
      let h = has.state in
      let a = assignment_of graph evidence costs ok long within h has.is.long has.is.model in
      let total : cost_among (fault_weights evidence costs) (λ v. true) a.by ≡ c = sym (cost_among-all evidence a.by costs h has.is.long a.bits) ∙ has.is.cost_is in
      is.row.whole c lt (record { by = a.by; agrees = a.agrees; meets = enough.left a.by a.agrees a.holds (omega (arith, total)); cost_is = total })
