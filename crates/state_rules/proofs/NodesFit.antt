-- Nodes that fit a graph, and one more after them.
use Rattle.std.proofs.Common.{◌≡◌, ℕ, zero, suc, ◌+◌, ◌<◌, ◌≤◌, Bool, true, List, [], ◌∷◌, ◌++◌, length, Some, sym, ◌∙◌, subst, arith, zero-add}
use Rattle.std.specs.Prelude.{slice_get}
use Rattle.std.specs.List.{AllByRecursion}
use Rattle.std.proofs.lemmas.Bool.{and_parts}
use Rattle.std.proofs.lemmas.List.{nil_from_length}
use Rattle.std.proofs.lemmas.Option.{get_or_from_slice_get, slice_get_within}
use Rattle.state_rules.specs.declared.nodes.NodeKind.{NodeKind}
use Rattle.state_rules.specs.declared.nodes.NodeKind.TheVariants.{Literal}
use Rattle.state_rules.specs.Graphs.{Node, true_node, node_at, mention_by, mentions, apart_at, kind_fits, node_fits, nodes_fit, AreNodes}
use Rattle.state_rules.proofs.NodeValues.{are_below, map-below, value_of-before}
use Rattle.state_rules.proofs.Lists.{AllByRecursion-append}

-- ---- one of them

pub nodes_fit-at : (vars own : ℕ) (nodes : List Node) (i : ℕ) → nodes_fit vars own nodes ≡ true → i < length nodes → node_fits vars (own + i) (node_at nodes i) ≡ true
nodes_fit-at vars own [] i all inside = absurd (omega arith)
nodes_fit-at vars own (node ∷ nodes) zero all inside = grind arith
nodes_fit-at vars own (node ∷ nodes) (suc i) all inside =
    let there : (own + 1) + i ≡ own + suc i = omega arith in
    subst (λ o. node_fits vars o (node_at nodes i) ≡ true) there
    (nodes_fit-at vars (own + 1) nodes i (and_parts (node_fits vars own node) (nodes_fit vars (own + 1) nodes) all).1 (omega arith))

-- what holds of the node with number `own`
pub record Fits (vars own : ℕ) (node : Node) : Type 0 where
  pub below : are_below own node.kids ≡ true
  pub kind : kind_fits vars node.what node.kids ≡ true

pub fits : (vars own : ℕ) (node : Node) → node_fits vars own node ≡ true → Fits vars own node
fits vars own node is = let parts = and_parts (are_below own node.kids) (kind_fits vars node.what node.kids) is in record { below = parts.0; kind = parts.1 }

pub fits-at : (vars : ℕ) (nodes : List Node) (i : ℕ) → nodes_fit vars 0 nodes ≡ true → i < length nodes → Fits vars i (node_at nodes i)
fits-at vars nodes i all inside = fits vars i (node_at nodes i) (subst (λ o. node_fits vars o (node_at nodes i) ≡ true) (zero-add i) (nodes_fit-at vars 0 nodes i all inside))

-- a literal node has no children and a variable of the graph
pub record IsLiteral (vars var : ℕ) (kids : List ℕ) : Type 0 where
  pub alone : kids ≡ []
  pub low : 1 ≤ var
  pub high : var ≤ vars

pub literal : (vars var : ℕ) (positive : Bool) (kids : List ℕ) → kind_fits vars (Literal positive var) kids ≡ true → IsLiteral vars var kids
literal vars var positive kids fit = grind (arith, nil_from_length)

pub each_apart : (f : ℕ → Bool) (nodes : List Node) (i : ℕ) → AllByRecursion (λ (n : Node). apart_at f n.what n.kids ≡ true) nodes → i < length nodes → apart_at f (node_at nodes i).what (node_at nodes i).kids ≡ true
each_apart f [] i all inside = absurd (omega arith)
each_apart f (node ∷ nodes) zero all inside = all.0
each_apart f (node ∷ nodes) (suc i) all inside = each_apart f nodes i all.1 (omega arith)

pub fits-get : (vars : ℕ) (nodes : List Node) (i : ℕ) (node : Node) → nodes_fit vars 0 nodes ≡ true → slice_get nodes i ≡ Some node → Fits vars i node
fits-get vars nodes i node all there = subst (Fits vars i) (get_or_from_slice_get nodes i node true_node there) (fits-at vars nodes i all (slice_get_within nodes i node there))

pub apart-get : (f : ℕ → Bool) (nodes : List Node) (i : ℕ) (node : Node) → AllByRecursion (λ (n : Node). apart_at f n.what n.kids ≡ true) nodes → slice_get nodes i ≡ Some node → apart_at f node.what node.kids ≡ true
apart-get f nodes i node all there = subst (λ (n : Node). apart_at f n.what n.kids ≡ true) (get_or_from_slice_get nodes i node true_node there) (each_apart f nodes i all (slice_get_within nodes i node there))

-- ---- one more

nodes_fit-push : (vars own : ℕ) (nodes : List Node) (node : Node) → nodes_fit vars own nodes ≡ true → node_fits vars (own + length nodes) node ≡ true → nodes_fit vars own (nodes ++ node ∷ []) ≡ true
nodes_fit-push vars own [] node all one = grind arith
nodes_fit-push vars own (m ∷ nodes) node all one = grind (arith, nodes_fit-push vars (own + 1) nodes node)

pub apart_at-below : (f g : ℕ → Bool) (own : ℕ) (kind : NodeKind) (kids : List ℕ) → are_below own kids ≡ true → ((k : ℕ) → k < own → f k ≡ g k) → apart_at f kind kids ≡ apart_at g kind kids
apart_at-below f g own kind kids below same = grind (arith, map-below)

apart-same : (vars own bound : ℕ) (f g : ℕ → Bool) → ((k : ℕ) → k < bound → f k ≡ g k) → (nodes : List Node) → own + length nodes ≤ bound → nodes_fit vars own nodes ≡ true
    → AllByRecursion (λ (n : Node). apart_at f n.what n.kids ≡ true) nodes → AllByRecursion (λ (n : Node). apart_at g n.what n.kids ≡ true) nodes
apart-same vars own bound f g same [] few all h = tt
apart-same vars own bound f g same (m ∷ nodes) few all h = grind (arith, apart_at-below, apart-same vars (own + 1) bound f g same nodes)

pub AreNodes-push : (vars : ℕ) (nodes : List Node) (node : Node) → AreNodes vars nodes → node_fits vars (length nodes) node ≡ true → ((v : ℕ) → apart_at (mentions nodes v) node.what node.kids ≡ true) → AreNodes vars (nodes ++ node ∷ [])
AreNodes-push vars nodes node are one apart = record {
  fit = nodes_fit-push vars 0 nodes node are.fit (subst (λ o. node_fits vars o node ≡ true) (sym (zero-add (length nodes))) one);
  apart = λ v.
      let same : (k : ℕ) → k < length nodes → mentions nodes v k ≡ mentions (nodes ++ node ∷ []) v k = λ k h. sym (value_of-before (mention_by v) nodes node k h) in
      AllByRecursion-append (λ (n : Node). apart_at (mentions (nodes ++ node ∷ []) v) n.what n.kids ≡ true) nodes (node ∷ []) (apart-same vars 0 (length nodes) (mentions nodes v) (mentions (nodes ++ node ∷ []) v) same nodes (omega arith) are.fit (are.apart v))
      (sym (apart_at-below (mentions nodes v) (mentions (nodes ++ node ∷ []) v) (length nodes) node.what node.kids (fits vars (length nodes) node one).below same) ∙ apart v, tt);
}
