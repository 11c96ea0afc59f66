-- A graph whose last node replaces the root is minimised, and so is a true one if the root costs nothing.
use Rattle.std.proofs.Common.{◌≡◌, ℕ, ◌+◌, ◌-◌, ◌<◌, ◌≤◌, List, [], ◌∷◌, ◌++◌, length, get_or, All, Some, refl, ap, sym, ◌∙◌, subst, arith, length-append}
use Rattle.state_rules.specs.Graphs.{Node, Graph, true_node, is_true, mentions, AreNodes, IsGraph, edges, truth_by}
use Rattle.state_rules.proofs.NodeValues.{value_of-last}
use Rattle.state_rules.proofs.NodesFit.{AreNodes-push}
use Rattle.conditioner.specs.Models.{total_cost}
use Rattle.minimiser.specs.Costs.{part_cost, known_at, least_at}
use Rattle.state_rules.specs.Numbers.{cost_in}
use Rattle.minimiser.specs.Stored.{AreLeastCosts}
use Rattle.minimiser.proofs.Costs.{IsCost}
use Rattle.minimiser.proofs.LeastOfModels.{part_cost-none}
use Rattle.minimiser.proofs.Models.{LeastIs}
use Rattle.minimiser.proofs.Derivations.{is_cost}
use Rattle.minimiser.proofs.Valued.{value-is}
use Rattle.fault_graph.specs.Minimised.{IsMinimised}
use Rattle.fault_graph.specs.Small.{IsSmall}
use Rattle.fault_graph.proofs.LeastNodes.{StandsFor, StandsFor-same, stands-free}
use Rattle.fault_graph.proofs.SameDiagnoses.{graph-least, small-least, same-diagnoses}
use Rattle.fault_graph.proofs.Smallness.{small-true}

module _ (graph : Graph) (evidence costs : List ℕ) (ok : IsGraph graph) (long : length evidence ≡ graph.vars) (within : length costs ≤ graph.vars) where
  abbrev root : ℕ
  root = length graph.nodes - 1

  -- the nodes are a graph, which is minimised and small
  pub record IsWhole (new : List Node) : Type 0 where
    pub graph_is : IsGraph (record { nodes = new; vars = graph.vars })
    pub minimised : IsMinimised graph evidence costs (record { nodes = new; vars = graph.vars })
    pub small : IsSmall evidence costs (record { nodes = new; vars = graph.vars })

  pub whole : All (λ c. 0 < c) costs → (nodes : List Node) (node : Node) (c : ℕ) → AreNodes graph.vars (nodes ++ node ∷ []) → length nodes ≤ length graph.nodes - 1 → edges (nodes ++ node ∷ []) ≤ edges graph.nodes
      → least_at graph evidence costs (length graph.nodes - 1) ≡ Some c
      → StandsFor (known_at evidence) (part_cost costs) (length costs) (λ a. is_true graph.nodes (length graph.nodes - 1) a) (λ w. mentions graph.nodes w (length graph.nodes - 1)) c (λ a. is_true (nodes ++ node ∷ []) (length nodes) a)
      → (IsGraph (record { nodes = nodes ++ node ∷ []; vars = graph.vars }) → IsSmall evidence costs (record { nodes = nodes ++ node ∷ []; vars = graph.vars })) → IsWhole (nodes ++ node ∷ [])
  whole dears nodes node c are few few_edges is stands small =
      let new : List Node = nodes ++ node ∷ [] in
      let long_new : length new ≡ length nodes + 1 = length-append nodes (node ∷ []) in
      let sound : IsGraph (record { nodes = new; vars = graph.vars }) = record { some = omega (arith, long_new); few = omega (arith, long_new, few, ok.some, ok.few); nodes = are } in
      let last : length nodes ≡ length new - 1 = omega (arith, long_new) in
      let at_end = subst (λ n. StandsFor (known_at evidence) (part_cost costs) (length costs) (λ a. is_true graph.nodes root a) (λ w. mentions graph.nodes w root) c (λ a. is_true new n a)) last stands in
      record {
        graph_is = sound;
        minimised = record {
          vars = refl;
          least = small-least graph (record { nodes = new; vars = graph.vars }) evidence costs ok sound refl long within dears c is at_end ∙ sym (graph-least graph (record { nodes = new; vars = graph.vars }) evidence costs ok sound refl long within dears c is at_end);
          diagnoses = same-diagnoses graph (record { nodes = new; vars = graph.vars }) evidence costs ok sound refl long within dears c is at_end;
          few = omega (arith, long_new, few, ok.some);
          few_edges = few_edges;
        };
        small = small sound;
      }

  -- the root costs nothing
  pub free-root : total_cost costs < 2147483647 → (most : ℕ) → LeastIs graph costs evidence most → (values : List ℕ) → AreLeastCosts graph evidence costs values → All (λ c. 0 < c) costs → get_or values (length graph.nodes - 1) 0 ≡ 0
      → IsWhole (true_node ∷ [])
  free-root total most least_most values v dears z =
      let free : least_at graph evidence costs root ≡ Some 0 = sym (value-is graph evidence costs values v root (omega (arith, ok.some))) ∙ ap cost_in z in
      whole dears [] true_node 0 (AreNodes-push graph.vars [] true_node (record { fit = refl; apart = λ w. tt }) refl (λ w. refl)) (omega arith) (omega arith) free
      (StandsFor-same (known_at evidence) (part_cost costs) (length costs) (λ a. refl) (λ w. refl) refl (λ a. value_of-last (truth_by a) [] true_node)
      (stands-free (known_at evidence) (part_cost costs) (length costs) (part_cost-none costs) (λ a. is_true graph.nodes root a) (λ w. mentions graph.nodes w root)
      (subst (λ o. IsCost (known_at evidence) (part_cost costs) (length costs) (λ a. is_true graph.nodes root a) (λ w. mentions graph.nodes w root) o) free (is_cost graph evidence costs ok root))))
      (λ sound. small-true evidence costs graph.vars)
