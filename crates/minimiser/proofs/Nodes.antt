-- The least costs of all nodes of a graph.
use Rattle.std.proofs.Common.{◌≡◌, ℕ, ◌+◌, ◌<◌, ◌≤◌, Bool, true, List, [], ◌∷◌, map, length, get_or, take, Option, None, refl, ap, sym, ◌∙◌, arith, ⊎_elim, zero, suc}
use Rattle.std.specs.List.{list_any, list_all}
use Rattle.std.proofs.lemmas.Bool.{cases_lt}
use Rattle.std.proofs.lemmas.List.{get_or_past}
use Rattle.state_rules.specs.Values.{values}
use Rattle.state_rules.specs.declared.nodes.NodeKind.{NodeKind}
use Rattle.state_rules.specs.Graphs.{at_most_one, Graph, true_node, node_at, mentions, is_true, IsGraph}
use Rattle.state_rules.proofs.NodeValues.{map-below}
use Rattle.state_rules.proofs.NodesFit.{fits-at}
use Rattle.state_rules.proofs.Values.{length-values_after, values-at, values-before}
use Rattle.conditioner.specs.Evidence.{leaf_of}
use Rattle.node_costs.proofs.Nodes.{value_by, AreLaws, all_nodes, children_and}
use Rattle.minimiser.specs.Costs.{sum_costs, cheapest, cost_at, literal_cost, cost_by, node_cost}
use Rattle.minimiser.proofs.Costs.{IsLeastCost, and_is, or_is, true_is, false_is, literal_is}

pub cost_at-get : (xs : List (Option ℕ)) (i : ℕ) → cost_at xs i ≡ get_or xs i None
cost_at-get [] i = refl
cost_at-get (x ∷ xs) zero = refl
cost_at-get (x ∷ xs) (suc i) = cost_at-get xs i

module _ (known : ℕ → Option Bool) (price : ℕ → ℕ) (parts : ℕ) (none : (v : ℕ) → ((1 ≤ v) → (v < 1 + parts) → ⊥) → price v ≡ 0) where
  abbrev literal : ℕ → Bool → Option ℕ
  literal var positive = literal_cost (leaf_of positive (known var)) (price var) positive

  laws : AreLaws literal sum_costs cheapest (IsLeastCost known price parts)
  laws = record {
    of_literal = literal_is known price parts none;
    of_true = true_is known price parts;
    of_false = false_is known price parts;
    of_both = λ t u m o c cs apart is_t is_u. and_is known price parts t u m o c (sum_costs cs) is_t is_u apart;
    of_either = λ t u m o c cs is_t is_u. or_is known price parts t u m o c (cheapest cs) is_t is_u;
  }

  same_value : (kind : NodeKind) (costs : List (Option ℕ)) → cost_by known price kind costs ≡ value_by literal sum_costs cheapest (IsLeastCost known price parts) kind costs
  same_value kind costs = grind arith

  module _ (graph : Graph) (ok : IsGraph graph) where
    abbrev C : ℕ → Option ℕ
    C k = cost_at (values (node_cost known price) graph.nodes) k

    -- the cost at a node follows from those of its children
    pub cost-of : (i : ℕ) → i < length graph.nodes → C i ≡ cost_by known price (node_at graph.nodes i).what (map C (node_at graph.nodes i).kids)
    cost-of i h =
        let f = node_cost known price in
        let es : List (Option ℕ) = values f (take i graph.nodes) in
        cost_at-get (values f graph.nodes) i ∙ values-at f graph.nodes i true_node h None
        ∙ ap (cost_by known price (node_at graph.nodes i).what) (map-below (cost_at es) C i (node_at graph.nodes i).kids (fits-at graph.vars graph.nodes i ok.nodes.fit h).below
        (λ k l. cost_at-get es k ∙ values-before f graph.nodes i true_node h k None l ∙ sym (cost_at-get (values f graph.nodes) k)))

    pub is_cost : (k : ℕ) → IsLeastCost known price parts (λ a. is_true graph.nodes k a) (λ v. mentions graph.nodes v k) (cost_at (values (node_cost known price) graph.nodes) k)
    is_cost k = ⊎_elim
        (λ (h : k < length graph.nodes). all_nodes literal sum_costs cheapest (IsLeastCost known price parts) laws graph ok C (λ i lt. cost-of i lt ∙ same_value (node_at graph.nodes i).what _) k h)
        grind (arith, cost_at-get, get_or_past, length-values_after)
        (cases_lt k (length graph.nodes))

    -- and of children that share no variable
    pub children_cost : (kids : List ℕ) → ((v : ℕ) → at_most_one (map (mentions graph.nodes v) kids) ≡ true)
        → IsLeastCost known price parts (λ a. list_all (λ b. b) (map (λ k. is_true graph.nodes k a) kids)) (λ v. list_any (λ b. b) (map (mentions graph.nodes v) kids)) (sum_costs (map C kids))
    children_cost kids apart = children_and literal sum_costs cheapest (IsLeastCost known price parts) laws (λ k a. is_true graph.nodes k a) (λ k v. mentions graph.nodes v k) C kids (λ k m. is_cost k) apart
