-- Later lines: the values of their nodes, and that all are still nodes of a smooth graph.
use Rattle.std.proofs.Common.{◌≡◌, ℕ, ◌+◌, ◌<◌, ◌≤◌, Bool, true, List, [], ◌∷◌, ◌++◌, map, length, refl, ap, sym, ◌∙◌, subst, arith, append_assoc, append-nil, length-append}
use Rattle.std.proofs.lemmas.Bool.Decides.{nat_tests}
use Rattle.std.specs.List.{range_with_len, AllByRecursion}
use Rattle.std.proofs.lemmas.Bool.{and_parts, and_from}
use Rattle.state_rules.proofs.Lists.{AllByRecursion-append}
use Rattle.state_rules.proofs.Values.{length-values_after, values_after-append, values_after-keeps}
use Rattle.state_rules.specs.declared.nodes.NodeKind.{NodeKind}
use Rattle.state_rules.specs.Graphs.{Node, mention_by, mentions, apart_at, kind_fits, nodes_fit, AreNodes}
use Rattle.state_rules.proofs.NodeValues.{are_below, are_below-from, below-each, map-below, value_of, value_of-last}
use Rattle.state_rules.proofs.NodesFit.{apart_at-below, AreNodes-push}
use Rattle.nnf_text.specs.StateGraphs.{smooth_at, Smooth}

-- ---- values of nodes

module _ (by : NodeKind → List Bool → Bool) where
  -- earlier lines keep their values
  pub value_of-front : (front back : List Node) (k : ℕ) → k < length front → value_of by (front ++ back) k ≡ value_of by front k
  value_of-front front back k lt = grind (arith, nat_tests, values_after-append, values_after-keeps, length-values_after)

  -- a line's value is what its kind makes of its children
  pub value_of-there : (front : List Node) (node : Node) (back : List Node) → value_of by (front ++ (node ∷ back)) (length front) ≡ by node.what (map (value_of by front) node.kids)
  value_of-there front node back =
      ap (λ ns. value_of by ns (length front)) (sym (append_assoc front (node ∷ []) back))
      ∙ value_of-front (front ++ node ∷ []) back (length front) (omega (arith, length-append front (node ∷ [])))
      ∙ value_of-last by front node

-- ---- smooth nodes

smooth_at-below : (f g : ℕ → Bool) (own : ℕ) (kind : NodeKind) (kids : List ℕ) → are_below own kids ≡ true → ((k : ℕ) → k < own → f k ≡ g k) → smooth_at f kind kids ≡ smooth_at g kind kids
smooth_at-below f g own kind kids below same = grind (arith, nat_tests, map-below)

smooth-same : (vars own bound : ℕ) (f g : ℕ → Bool) → ((k : ℕ) → k < bound → f k ≡ g k) → (nodes : List Node) → own + length nodes ≤ bound → nodes_fit vars own nodes ≡ true
    → AllByRecursion (λ (n : Node). smooth_at f n.what n.kids ≡ true) nodes → AllByRecursion (λ (n : Node). smooth_at g n.what n.kids ≡ true) nodes
smooth-same vars own bound f g same [] few all h = tt
smooth-same vars own bound f g same (m ∷ nodes) few all h = grind (arith, nat_tests, and_parts, smooth_at-below, same, smooth-same vars (own + 1) bound f g same nodes)

-- lines that are nodes of a graph, and smooth
pub record Stand (vars : ℕ) (lines : List Node) : Type 0 where
  pub nodes : AreNodes vars lines
  pub smooth : Smooth lines

-- a node that may follow them
pub record MayFollow (vars : ℕ) (base : List Node) (node : Node) : Type 0 where
  pub below : are_below (length base) node.kids ≡ true
  pub kind : kind_fits vars node.what node.kids ≡ true
  pub apart : (v : ℕ) → apart_at (mentions base v) node.what node.kids ≡ true
  pub smooth : (v : ℕ) → smooth_at (mentions base v) node.what node.kids ≡ true

-- nodes in a row that may each follow
pub values-behind : (by : NodeKind → List Bool → Bool) (vars : ℕ) (base seen middle back : List Node) → AllByRecursion (MayFollow vars base) middle
    → map (value_of by (base ++ (seen ++ (middle ++ back)))) (range_with_len (length base + length seen) (length middle)) ≡ map (λ x. by x.what (map (value_of by base) x.kids)) middle
values-behind by vars base seen [] back below = refl
values-behind by vars base seen (x ∷ middle) back below =
    let here : value_of by ((base ++ seen) ++ (x ∷ (middle ++ back))) (length (base ++ seen)) ≡ by x.what (map (value_of by base) x.kids) =
    value_of-there by (base ++ seen) x (middle ++ back) ∙ ap (by x.what) (map-below (value_of by (base ++ seen)) (value_of by base) (length base) x.kids below.0.below (λ k h. value_of-front by base seen k h)) in
    grind (arith, nat_tests, here, append_assoc, length-append, values-behind by vars base (seen ++ x ∷ []) middle back below.1)

-- a node may also follow later
may_follow-later : (vars : ℕ) (base seen : List Node) (node : Node) → MayFollow vars base node → MayFollow vars (base ++ seen) node
may_follow-later vars base seen node f = record {
  below = are_below-from (length (base ++ seen)) node.kids (λ k d h. omega (arith, length-append base seen, below-each (length base) node.kids f.below k d h));
  kind = f.kind;
  apart = λ v. apart_at-below (mentions (base ++ seen) v) (mentions base v) (length base) node.what node.kids f.below (λ k h. value_of-front (mention_by v) base seen k h) ∙ f.apart v;
  smooth = λ v. smooth_at-below (mentions (base ++ seen) v) (mentions base v) (length base) node.what node.kids f.below (λ k h. value_of-front (mention_by v) base seen k h) ∙ f.smooth v;
}

stand-push : (vars : ℕ) (lines : List Node) (node : Node) → Stand vars lines → MayFollow vars lines node → Stand vars (lines ++ node ∷ [])
stand-push vars lines node s f = record {
  nodes = AreNodes-push vars lines node s.nodes (and_from _ _ f.below f.kind) f.apart;
  smooth = λ v.
      let same : (k : ℕ) → k < length lines → mentions lines v k ≡ mentions (lines ++ node ∷ []) v k = λ k h. sym (value_of-front (mention_by v) lines (node ∷ []) k h) in
      AllByRecursion-append (λ (n : Node). smooth_at (mentions (lines ++ node ∷ []) v) n.what n.kids ≡ true) lines (node ∷ [])
      (smooth-same vars 0 (length lines) (mentions lines v) (mentions (lines ++ node ∷ []) v) same lines (omega arith) s.nodes.fit (s.smooth v))
      (sym (smooth_at-below (mentions lines v) (mentions (lines ++ node ∷ []) v) (length lines) node.what node.kids f.below same) ∙ f.smooth v, tt);
}

stand-more : (vars : ℕ) (base seen middle : List Node) → Stand vars (base ++ seen) → AllByRecursion (MayFollow vars base) middle → Stand vars (base ++ (seen ++ middle))
stand-more vars base seen [] s h = subst (λ t. Stand vars (base ++ t)) (sym (append-nil seen)) s
stand-more vars base seen (x ∷ middle) s h = grind (arith, nat_tests, append_assoc, stand-push, may_follow-later, stand-more vars base (seen ++ x ∷ []) middle (subst (Stand vars) (append_assoc base seen (x ∷ [])) (stand-push vars (base ++ seen) x s (may_follow-later vars base seen x h.0))) h.1)

-- nodes in a row that may each follow are smooth
pub stand-behind : (vars : ℕ) (base middle : List Node) → Stand vars base → AllByRecursion (MayFollow vars base) middle → Stand vars (base ++ middle)
stand-behind vars base middle s h = stand-more vars base [] middle (subst (Stand vars) (sym (append-nil base)) s) h
