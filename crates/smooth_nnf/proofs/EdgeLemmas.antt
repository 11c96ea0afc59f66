-- The number of edges of lines, and the text of all lines.
use Rattle.std.proofs.Common.{◌≡◌, ℕ, zero, suc, ◌+◌, ◌-◌, ◌<◌, ◌≤◌, List, [], ◌∷◌, ◌++◌, map, length, take, get_or, None, refl, sym, ap, ◌∙◌, arith, append-nil}
use Rattle.std.proofs.lemmas.Bool.Decides.{nat_tests}
use Rattle.std.specs.Prelude.{sum_by}
use Rattle.std.specs.List.{flat_map, enumerate_from, range_with_len}
use Rattle.std.proofs.lemmas.List.{take_more, flat_map_more, take-append-drop}
use Rattle.std.proofs.lemmas.List.Sums.{sum_by-cons, sum_by-append}
use Rattle.std.proofs.lemmas.List.Concat.{flat_map-append}
use Rattle.std.proofs.lemmas.List.FromFn.{length-range_with_len, length-enumerate_from}
use Rattle.text_rules.specs.Tokens.{spaced}
use Rattle.state_rules.specs.Graphs.{Node, true_node, node_at, edges}
use Rattle.nnf_text.specs.WrittenGraphs.{node_words, graph_text}
use Rattle.nnf_text.proofs.LineTexts.{header, lines, text-lines}
use Rattle.minimiser.specs.Costs.{cost_at}
use Rattle.state_rules.specs.Numbers.{cost_in}
use Rattle.minimiser.proofs.Sums.{cost_in-some}
use Rattle.smooth_nnf.specs.Layouts.{Layout, literal_pair, literal_pairs, cheapest_children, child_line, or_lines, node_lines, last_line, all_lines}
use Rattle.smooth_nnf.specs.inner.Drawings.{Drawing, shown, filled_line}
use Rattle.smooth_nnf.specs.inner.Texts.{lines_text, child_edges}
use Rattle.smooth_nnf.proofs.LineLemmas.{numbered}

pub last-kids : (d : Drawing) (root value : ℕ) → root ≡ length d.graph.nodes - 1 → cost_in value ≡ cost_at (map cost_in d.values) root → (value ≡ 4294967295 → ⊥)
    → length (filled_line d None root).kids ≡ length (last_line (shown d)).kids
last-kids d root value at is some = grind (arith, nat_tests, cost_in-some)

child-lines : (d : Drawing) (node cost : ℕ) (kids : List ℕ) → sum_by (child_edges d node cost) kids
    ≡ edges (map (child_line (shown d) node) (cheapest_children (map cost_in d.values) cost kids)) + length (cheapest_children (map cost_in d.values) cost kids)
child-lines d node cost [] = refl
child-lines d node cost (k ∷ kids) = grind (
  arith,
  nat_tests,
  sum_by-cons (child_edges d node cost) k kids,
  sum_by-cons (λ (n : Node). length n.kids) (child_line (shown d) node k) (map (child_line (shown d) node) (cheapest_children (map cost_in d.values) cost kids)),
  child-lines d node cost kids,
)

pub or-edges : (d : Drawing) (node cost : ℕ) (kids : List ℕ) → sum_by (child_edges d node cost) kids ≡ edges (or_lines (shown d) node (cheapest_children (map cost_in d.values) cost kids))
or-edges d node cost kids = grind (arith, nat_tests, child-lines, sum_by-append, sum_by-cons, length-range_with_len)

-- ---- one node after the other

module _ {X : Type 0} (f : X → List Node) (xs : List X) where
  more-edges : (i : ℕ) (d : X) → i < length xs → edges (flat_map f (take (i + 1) xs)) ≡ edges (flat_map f (take i xs)) + edges (f (get_or xs i d))
  more-edges i d lt = grind (arith, take_more xs i d lt, flat_map_more f [] (take i xs) (get_or xs i d), sum_by-append (λ (n : Node). length n.kids) (flat_map f (take i xs)) (f (get_or xs i d)))

  part-edges : (i : ℕ) → edges (flat_map f (take i xs)) ≤ edges (flat_map f xs)
  part-edges i = omega (arith, simp (flat_map-append, sum_by-append) at (ap (λ ys. edges (flat_map f ys)) (take-append-drop i xs)))

no-edges : (s n : ℕ) → edges (flat_map literal_pair (range_with_len s n)) ≡ 0
no-edges s zero = refl
no-edges s (suc n) = grind (arith, nat_tests, sum_by-append, no-edges (s + 1) n)

pub all-edges : (L : Layout) → edges (all_lines L) ≡ edges (flat_map (node_lines L) (enumerate_from 0 L.graph.nodes)) + length (last_line L).kids
all-edges L = grind (arith, nat_tests, sum_by-append, sum_by-cons, no-edges)

pub edges-next : (L : Layout) (nodes : List Node) (i : ℕ) → i < length nodes
    → edges (flat_map (node_lines L) (take (i + 1) (enumerate_from 0 nodes))) ≡ edges (flat_map (node_lines L) (take i (enumerate_from 0 nodes))) + edges (node_lines L (i, node_at nodes i))
edges-next L nodes i lt =
    more-edges (node_lines L) (enumerate_from 0 nodes) i (0, true_node) (omega (arith, length-enumerate_from 0 nodes, lt)) ∙ ap (λ x. edges (flat_map (node_lines L) (take i (enumerate_from 0 nodes))) + edges (node_lines L x)) (sym (numbered nodes i lt))

-- the nodes up to one have at most the edges of all lines
pub edges-up : (L : Layout) (nodes : List Node) (i : ℕ) → nodes ≡ L.graph.nodes → i < length nodes
    → edges (flat_map (node_lines L) (take i (enumerate_from 0 nodes))) + edges (node_lines L (i, node_at nodes i)) + length (last_line L).kids ≤ edges (all_lines L)
edges-up L nodes i is lt =
    omega (arith, edges-next L nodes i lt, part-edges (node_lines L) (enumerate_from 0 nodes) (i + 1), ap (λ ns. edges (flat_map (node_lines L) (enumerate_from 0 ns))) is, all-edges L)

-- ---- the whole text

nested : {X : Type 0} (f : X → List Node) (xs : List X) → flat_map (λ x. lines_text (f x)) xs ≡ lines_text (flat_map f xs)
nested f [] = refl
nested f (x ∷ xs) = ap (λ t. lines_text (f x) ++ t) (nested f xs) ∙ sym (flat_map-append (λ node. spaced (node_words node)) (f x) (flat_map f xs))

all-lines : (L : Layout) → flat_map (λ part. lines_text (literal_pair part)) (range_with_len 1 L.parts)
    ++ (flat_map (λ x. lines_text (node_lines L x)) (enumerate_from 0 L.graph.nodes) ++ spaced (node_words (last_line L))) ≡ lines (all_lines L)
all-lines L =
    let body : List Node = flat_map (node_lines L) (enumerate_from 0 L.graph.nodes) in
    (λ i. nested literal_pair (range_with_len 1 L.parts) i ++ (nested (node_lines L) (enumerate_from 0 L.graph.nodes) i ++ sym (append-nil (spaced (node_words (last_line L)))) i))
    ∙ ap (λ t. lines_text (literal_pairs L.parts) ++ t) (sym (flat_map-append (λ node. spaced (node_words node)) body (last_line L ∷ [])))
    ∙ sym (flat_map-append (λ node. spaced (node_words node)) (literal_pairs L.parts) (body ++ last_line L ∷ []))

pub all-written : (L : Layout) (count kids p q : ℕ) → count ≡ length (all_lines L) → kids ≡ edges (all_lines L) → p ≡ L.parts → q ≡ L.parts
    → header count kids p ++ (flat_map (λ part. lines_text (literal_pair part)) (range_with_len 1 q)
    ++ (flat_map (λ x. lines_text (node_lines L x)) (enumerate_from 0 L.graph.nodes) ++ spaced (node_words (last_line L)))) ≡ graph_text (record { nodes = all_lines L; vars = L.parts })
all-written L count kids p q e f at_p at_q = rw (at_p, at_q) (ap (λ t. header count kids L.parts ++ t) (all-lines L) ∙ text-lines count kids L.parts (all_lines L) e f)
