-- The graph without the skipped nodes.
use Rattle.std.proofs.lemmas.Bool.Decides.{nat_tests}
use Rattle.std.proofs.Common.{◌≡◌, ◌≢◌, ℕ, zero, suc, ◌<◌, Bool, true, false, cond, List, [], ◌∷◌, map, length, get_or, refl, ap, sym, ◌∙◌, subst, arith}
use Rattle.std.specs.List.{list_all, list_any}
use Rattle.std.proofs.lemmas.Bool.{ne_eqb, eq-eqb, false≢true}
use Rattle.state_rules.specs.Assignments.{Assignment}
use Rattle.state_rules.specs.declared.nodes.NodeKind.{NodeKind}
use Rattle.state_rules.specs.declared.nodes.NodeKind.TheVariants.{Literal, And, Or}
use Rattle.state_rules.specs.Graphs.{Graph, Node, false_node, node_at, truth_by, is_true, IsGraph}
use Rattle.state_rules.proofs.NodeValues.{are_below, value_of-at}
use Rattle.state_rules.proofs.NodesFit.{fits-at}
use Rattle.part_sets.proofs.Children.{child-below}
use Rattle.level_lister.specs.inner.Skips.{living}

length-living : (nodes : List Node) (skips : List ℕ) → length (living nodes skips) ≡ length nodes
length-living [] skips = refl
length-living (node ∷ nodes) [] = refl
length-living (node ∷ nodes) (skip ∷ skips) = ap suc (length-living nodes skips)

living-at : (nodes : List Node) (skips : List ℕ) (k : ℕ) → get_or skips k 0 ≡ 0 → node_at (living nodes skips) k ≡ node_at nodes k
living-at [] skips k e = refl
living-at (node ∷ nodes) [] k e = refl
living-at (node ∷ nodes) (skip ∷ skips) zero e = ap (λ b. cond b node false_node) (eq-eqb skip 0 e)
living-at (node ∷ nodes) (skip ∷ skips) (suc k) e = living-at nodes skips k e

skipped-at : (nodes : List Node) (skips : List ℕ) (k : ℕ) → k < length nodes → get_or skips k 0 ≢ 0 → node_at (living nodes skips) k ≡ false_node
skipped-at [] skips k h ne = absurd (omega arith)
skipped-at (node ∷ nodes) [] k h ne = absurd (ne refl)
skipped-at (node ∷ nodes) (skip ∷ skips) zero h ne = ap (λ b. cond b node false_node) (ne_eqb skip 0 ne)
skipped-at (node ∷ nodes) (skip ∷ skips) (suc k) h ne = skipped-at nodes skips k (omega arith) ne

-- if true children stay true, a true node does
all_more : (f g : ℕ → Bool) (kids : List ℕ) → ((j : ℕ) → j < length kids → f (get_or kids j 0) ≡ true → g (get_or kids j 0) ≡ true) → list_all (λ b. b) (map f kids) ≡ true → list_all (λ b. b) (map g kids) ≡ true
all_more f g [] more h = refl
all_more f g (k ∷ kids) more h = grind (arith, nat_tests, more zero, all_more f g kids (λ j lt. more (suc j) (omega arith)))

any_more : (f g : ℕ → Bool) (kids : List ℕ) → ((j : ℕ) → j < length kids → f (get_or kids j 0) ≡ true → g (get_or kids j 0) ≡ true) → list_any (λ b. b) (map f kids) ≡ true → list_any (λ b. b) (map g kids) ≡ true
any_more f g [] more h = absurd (false≢true h)
any_more f g (k ∷ kids) more h = grind (arith, more zero, any_more f g kids (λ j lt. more (suc j) (omega arith)))

pub truth_more : (a : Assignment) (what : NodeKind) (f g : ℕ → Bool) (kids : List ℕ) → ((j : ℕ) → j < length kids → f (get_or kids j 0) ≡ true → g (get_or kids j 0) ≡ true)
    → truth_by a what (map f kids) ≡ true → truth_by a what (map g kids) ≡ true
truth_more a (Literal positive var) f g kids more h = h
truth_more a And f g kids more h = all_more f g kids more h
truth_more a Or f g kids more h = any_more f g kids more h

module _ (graph : Graph) (skips : List ℕ) (ok : IsGraph graph) where
  below : (at : ℕ) → at < length graph.nodes → are_below at (node_at graph.nodes at).kids ≡ true
  below at inside = (fits-at graph.vars graph.nodes at ok.nodes.fit inside).below

  there : (at : ℕ) → at < length graph.nodes → at < length (living graph.nodes skips)
  there at inside = subst (λ n. at < n) (sym (length-living graph.nodes skips)) inside

  -- a node of the graph, by its children
  pub graph-is : (at : ℕ) → at < length graph.nodes → (a : Assignment) → is_true graph.nodes at a ≡ truth_by a (node_at graph.nodes at).what (map (λ k. is_true graph.nodes k a) (node_at graph.nodes at).kids)
  graph-is at inside a = value_of-at (truth_by a) graph.nodes at inside (below at inside)

  -- a node that is not skipped, by its children in the graph without skipped nodes
  pub living-is : (at : ℕ) → at < length graph.nodes → get_or skips at 0 ≡ 0 → (a : Assignment)
      → is_true (living graph.nodes skips) at a ≡ truth_by a (node_at graph.nodes at).what (map (λ k. is_true (living graph.nodes skips) k a) (node_at graph.nodes at).kids)
  living-is at inside e a =
      let same = living-at graph.nodes skips at e in
      value_of-at (truth_by a) (living graph.nodes skips) at (there at inside) (subst (λ (n : Node). are_below at n.kids ≡ true) (sym same) (below at inside))
      ∙ ap (λ (n : Node). truth_by a n.what (map (λ k. is_true (living graph.nodes skips) k a) n.kids)) same

  -- a skipped node
  pub skipped-is : (at : ℕ) → at < length graph.nodes → get_or skips at 0 ≢ 0 → (a : Assignment) → is_true (living graph.nodes skips) at a ≡ false
  skipped-is at inside ne a =
      let same = skipped-at graph.nodes skips at inside ne in
      value_of-at (truth_by a) (living graph.nodes skips) at (there at inside) (subst (λ (n : Node). are_below at n.kids ≡ true) (sym same) refl)
      ∙ ap (λ (n : Node). truth_by a n.what (map (λ k. is_true (living graph.nodes skips) k a) n.kids)) same

  -- the graph without skipped nodes is true only if the graph is
  sound : (fuel k : ℕ) → k < fuel → k < length graph.nodes → (a : Assignment) → is_true (living graph.nodes skips) k a ≡ true → is_true graph.nodes k a ≡ true
  sound zero k h inside a e = absurd (omega arith)
  sound (suc fuel) k h inside a e = grind (arith, graph-is, living-is, truth_more, child-below, skipped-is, sound fuel)

  pub living-true : (k : ℕ) → k < length graph.nodes → (a : Assignment) → is_true (living graph.nodes skips) k a ≡ true → is_true graph.nodes k a ≡ true
  living-true k inside a e = sound (suc k) k (omega arith) inside a e
