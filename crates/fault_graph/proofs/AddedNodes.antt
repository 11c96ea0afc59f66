-- Nodes that are added in memory that was allocated before.
use Rattle.std.proofs.Common.{◌≡◌, ℕ, List, [], ◌∷◌, ◌++◌, length, ap, ◌∙◌, arith}
use Rattle.state_rules.specs.declared.nodes.NodeKind.{NodeKind}
use Rattle.state_rules.specs.Graphs.{Node, edges}
use Rattle.flat_lists.specs.Flat.{pieces, EndAt}
use Rattle.flat_lists.proofs.Pieces.{length-pieces, sum-all, pushed}
use Rattle.node_store.specs.Flat.{nodes_of}
use Rattle.node_store.proofs.Zipped.{length-nodes_of, nodes_of-push, edges-nodes_of}

-- a kind, the places of children and where they end were written after the others
pub filled : (kinds kinds_new : List NodeKind) (ends ends_new kids children_new row : List ℕ) (nodes : List Node) (what : NodeKind) (end : ℕ) → kinds_new ≡ kinds ++ what ∷ [] → ends_new ≡ ends ++ end ∷ []
    → children_new ≡ kids ++ row → end ≡ length children_new → length ends ≡ length kinds → EndAt (length kids) 0 ends → nodes_of kinds (pieces kids 0 ends) ≡ nodes
    → EndAt (length children_new) 0 ends_new × (nodes_of kinds_new (pieces children_new 0 ends_new) ≡ nodes ++ record { what = what; kids = row } ∷ [])
filled kinds kinds_new ends ends_new kids children_new row nodes what end k e r n same valid is =
    let all = pushed kids row children_new ends ends_new end r e n valid in (
      all.0,
      (λ i. nodes_of (k i) (all.1 i)) ∙ nodes_of-push kinds (pieces kids 0 ends) what row (length-pieces kids 0 ends ∙ same) ∙ ap (λ (ns : List Node). ns ++ record { what = what; kids = row } ∷ []) is,
    )

-- the number of nodes, and of children
pub sizes : (kinds : List NodeKind) (ends kids : List ℕ) (nodes : List Node) → length ends ≡ length kinds → EndAt (length kids) 0 ends → nodes_of kinds (pieces kids 0 ends) ≡ nodes
    → (length nodes ≡ length kinds) × (edges nodes ≡ length kids)
sizes kinds ends kids nodes same valid is = grind (arith, length-pieces, length-nodes_of, edges-nodes_of, sum-all)
