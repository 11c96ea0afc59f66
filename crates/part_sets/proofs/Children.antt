-- A node and its children.
use Rattle.std.proofs.Common.{◌≡◌, ℕ, zero, suc, ◌<◌, ◌≤◌, Bool, true, List, [], ◌∷◌, map, length, get_or, All, ap, sym, ◌∙◌, subst, arith}
use Rattle.std.specs.List.{list_any}
use Rattle.state_rules.specs.declared.nodes.NodeKind.TheVariants.{Literal, Or}
use Rattle.state_rules.specs.Graphs.{Graph, node_at, mention_by, mentions, kind_fits, IsGraph}
use Rattle.state_rules.proofs.NodeValues.{below-each, value_of-at}
use Rattle.state_rules.proofs.NodesFit.{fits-at, literal}

any_at : (f : ℕ → Bool) (kids : List ℕ) (j : ℕ) → j < length kids → f (get_or kids j 0) ≡ true → list_any (λ x. x) (map f kids) ≡ true
any_at f [] j lt e = absurd (omega arith)
any_at f (k ∷ kids) zero lt e = grind arith
any_at f (k ∷ kids) (suc j) lt e = grind (arith, any_at f kids j)

module _ (graph : Graph) (at : ℕ) (kids : List ℕ) (ok : IsGraph graph) (inside : at < length graph.nodes) (are : kids ≡ (node_at graph.nodes at).kids) where
  pub child-below : (j : ℕ) → j < length kids → get_or kids j 0 < at
  child-below j lt = subst (λ (ks : List ℕ). All (λ k. k < at) ks) (sym are) (below-each at (node_at graph.nodes at).kids (fits-at graph.vars graph.nodes at ok.nodes.fit inside).below) j 0 lt

  pub mention-is : (v : ℕ) → mentions graph.nodes v at ≡ mention_by v (node_at graph.nodes at).what (map (mentions graph.nodes v) kids)
  mention-is v = value_of-at (mention_by v) graph.nodes at inside (fits-at graph.vars graph.nodes at ok.nodes.fit inside).below ∙ ap (λ ks. mention_by v (node_at graph.nodes at).what (map (mentions graph.nodes v) ks)) (sym are)

  -- a literal has a variable of the graph
  pub literal-fits : (var : ℕ) (positive : Bool) → Literal positive var ≡ (node_at graph.nodes at).what → (1 ≤ var) × (var ≤ graph.vars)
  literal-fits var positive e =
      let is = literal graph.vars var positive (node_at graph.nodes at).kids (subst (λ w. kind_fits graph.vars w (node_at graph.nodes at).kids ≡ true) (sym e) (fits-at graph.vars graph.nodes at ok.nodes.fit inside).kind) in
      (is.low, is.high)

  -- what is below a child is below the node
  pub child-mentions : (j : ℕ) → (node_at graph.nodes at).what ≡ Or → j < length kids → (v : ℕ) → mentions graph.nodes v (get_or kids j 0) ≡ true → mentions graph.nodes v at ≡ true
  child-mentions j what lt v e = mention-is v ∙ ap (λ w. mention_by v w (map (mentions graph.nodes v) kids)) what ∙ any_at (mentions graph.nodes v) kids j lt e
