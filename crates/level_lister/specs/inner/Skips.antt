-- Nodes that the passes skip, and the graph without them.
use Rattle.std.specs.Prelude.{◌≡◌, ℕ, ◌+◌, ◌-◌, ◌<◌, ◌≤◌, true, List, [], ◌∷◌, length, slice_index, nat_lt, ◌==◌, if◌then◌else◌}
use Rattle.state_rules.specs.Assignments.{Assignment}
use Rattle.state_rules.specs.declared.nodes.NodeKind.{NodeKind}
use Rattle.state_rules.specs.Graphs.{Graph, Node, false_node, node_at, is_true}
use Rattle.node_costs.specs.Costs.{Agrees, cost_among}
use Rattle.level_lister.specs.inner.CostSets.{fault_weights}

-- the nodes, where each skipped one is replaced by one that is never true
abbrev pub living : List Node → List ℕ → List Node
living [] skips = []
living (node ∷ nodes) [] = node ∷ nodes
living (node ∷ nodes) (skip ∷ skips) = (if skip == 0 then node else false_node) ∷ living nodes skips

-- a node that is not skipped, and its kind
pub record LivesAs (graph : Graph) (skips : List ℕ) (at : ℕ) (what : NodeKind) : Type 0 where
  pub within : at < length graph.nodes
  pub what_is : (node_at graph.nodes at).what ≡ what
  pub lives : slice_index skips at ≡ 0

-- The graph without the skipped nodes is enough up to cost `top`: it is true if the graph is, under an assignment of at most this cost that
-- agrees with the evidence.
pub record IsEnough (graph : Graph) (skips evidence costs : List ℕ) (top : ℕ) : Type 0 where
  pub left : (a : Assignment) → Agrees (fault_weights evidence costs) a → is_true graph.nodes (length graph.nodes - 1) a ≡ true → cost_among (fault_weights evidence costs) (λ v. true) a ≤ top
      → is_true (living graph.nodes skips) (length graph.nodes - 1) a ≡ true

-- 1 for a node that is skipped: each derivation through it costs more than `top`
abbrev pub skip_of : ℕ → ℕ → ℕ → ℕ
skip_of top least outside = if nat_lt top (outside + least) then 1 else 0
