-- Numbers that are the least costs of nodes.
use Rattle.std.proofs.Common.{◌≡◌, ℕ, ◌<◌, ◌≤◌, true, List, length, get_or, Some, ap, sym, ◌∙◌, arith}
use Rattle.std.proofs.Math.Seq.{take-length}
use Rattle.state_rules.specs.Assignments.{Assignment}
use Rattle.state_rules.specs.Values.{values}
use Rattle.state_rules.specs.Graphs.{Graph, is_true, mentions, IsGraph}
use Rattle.minimiser.specs.Costs.{part_cost, known_at, cost_at, node_cost, least_at}
use Rattle.state_rules.specs.Numbers.{cost_in}
use Rattle.minimiser.specs.Stored.{costs_to, AreLeastCosts}
use Rattle.minimiser.proofs.Costs.{Agrees, faults_in}
use Rattle.minimiser.proofs.Sums.{cost_at-map}
use Rattle.minimiser.proofs.OnePass.{length-least_costs}
use Rattle.minimiser.proofs.Derivations.{is_cost}

pub cost_in-is : (v c : ℕ) → cost_in v ≡ Some c → v ≡ c
cost_in-is v c e = grind arith

module _ (graph : Graph) (evidence costs : List ℕ) (cs : List ℕ) (v : AreLeastCosts graph evidence costs cs) where
  pub value-is : (k : ℕ) → k < length graph.nodes → cost_in (get_or cs k 0) ≡ least_at graph evidence costs k
  unfolding costs_to
  value-is k h = sym (cost_at-map cs k (omega (arith, length-least_costs graph evidence costs cs v))) ∙ ap (λ xs. cost_at xs k) v
      ∙ (λ i. cost_at (values (node_cost (known_at evidence) (part_cost costs)) (take-length graph.nodes i)) k)

  -- a true node has a cost, and what is faulty below it costs no less
  pub record HasLeast (a : Assignment) (k : ℕ) : Type 0 where
    pub is : least_at graph evidence costs k ≡ Some (get_or cs k 0)
    pub low : get_or cs k 0 ≤ faults_in (known_at evidence) (part_cost costs) (length costs) (λ u. mentions graph.nodes u k) a

  pub has_least : IsGraph graph → (a : Assignment) → Agrees (known_at evidence) (part_cost costs) (length costs) a → (k : ℕ) → k < length graph.nodes → is_true graph.nodes k a ≡ true → HasLeast a k
  has_least ok a agree k h e =
      let low = (is_cost graph evidence costs ok k).bound a agree e in
      let value = value-is k h in
      grind (arith, cost_in-is)
