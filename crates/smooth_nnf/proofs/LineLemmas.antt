-- The texts of the lines of nodes.
use Rattle.std.proofs.Common.{◌≡◌, ℕ, zero, suc, ◌+◌, ◌-◌, ◌^◌, ◌<◌, ◌≤◌, All, true, List, [], ◌∷◌, ◌++◌, map, length, take, get_or, codes, Option, Some, None, refl, sym, ap, ◌∙◌, subst, arith, append-nil}
use Rattle.std.proofs.lemmas.Bool.Decides.{nat_tests}
use Rattle.std.specs.Prelude.{decimal, slice_index}
use Rattle.std.specs.List.{flat_map, enumerate_from, range_with_len}
use Rattle.std.proofs.lemmas.Bool.{ltb-true}
use Rattle.std.proofs.lemmas.List.{length-map}
use Rattle.std.proofs.lemmas.List.Concat.{flat_map-append}
use Rattle.std.proofs.lemmas.List.Folds.{flat_map-map}
use Rattle.std.proofs.lemmas.List.FromFn.{get_or-enumerate_from, length-enumerate_from, length-range_with_len}
use Rattle.part_sets.proofs.Children.{child-mentions}
use Rattle.text_rules.specs.Tokens.{spaced}
use Rattle.state_rules.specs.declared.nodes.TheConstants.{CHILD_LIMIT}
use Rattle.state_rules.specs.declared.nodes.NodeKind.{NodeKind}
use Rattle.state_rules.specs.declared.nodes.NodeKind.TheVariants.{Or}
use Rattle.state_rules.specs.Graphs.{Node, Graph, IsGraph, true_node, node_at, mentions, kind_fits}
use Rattle.state_rules.proofs.NodeValues.{below-each}
use Rattle.state_rules.proofs.NodesFit.{Fits, fits-at}
use Rattle.diag_edge.specs.Edge.{Writing}
use Rattle.nnf_text.specs.Extending.{Extends}
use Rattle.nnf_text.proofs.Extended.{extends_each}
use Rattle.nnf_text.specs.WrittenGraphs.{node_words}
use Rattle.nnf_text.proofs.LineTexts.{and-spaced, or-spaced}
use Rattle.minimiser.specs.Costs.{cost_at}
use Rattle.state_rules.specs.Numbers.{cost_in}
use Rattle.minimiser.proofs.Sums.{cost_in-some}
use Rattle.smooth_nnf.specs.Layouts.{Layout, and_over, node_lines, own_line, cheapest_children, child_line, or_behind, or_lines, lines_to, own_lines, last_line}
use Rattle.smooth_nnf.specs.inner.Drawings.{Drawing, IsDrawing, IsUnder, shown, filled_line}
use Rattle.smooth_nnf.specs.inner.Texts.{numbers_text, lines_text, child_text}

pub numbered : (nodes : List Node) (i : ℕ) → i < length nodes → (i, node_at nodes i) ≡ get_or (enumerate_from 0 nodes) i (0, true_node)
numbered nodes i lt = let e : i ≡ 0 + i = omega arith in (λ j. (e j, node_at nodes i)) ∙ sym (get_or-enumerate_from 0 nodes i (0, true_node) lt)

-- the lines of one more node are added
pub node-added : (L : Layout) (nodes : List Node) (i : ℕ) (a b c : Writing) (p q s : Option (List ℕ)) → Extends a b p q (flat_map (λ x. lines_text (node_lines L x)) (take i (enumerate_from 0 nodes)))
    → Extends b c q s (lines_text (node_lines L (i, node_at nodes i))) → i < length nodes → Extends a c p s (flat_map (λ x. lines_text (node_lines L x)) (take (i + 1) (enumerate_from 0 nodes)))
node-added L nodes i a b c p q s g h lt =
    extends_each (λ x. lines_text (node_lines L x)) (enumerate_from 0 nodes) i (0, true_node) a b c p q s _ g h (ap (λ x. lines_text (node_lines L x)) (numbered nodes i lt)) (omega (arith, length-enumerate_from 0 nodes, lt))

-- the root's line
pub last-text : (d : Drawing) (root value : ℕ) → root ≡ length d.graph.nodes - 1 → cost_in value ≡ cost_at (map cost_in d.values) root → (value ≡ 4294967295 → ⊥)
    → spaced (node_words (filled_line d None root)) ≡ spaced (node_words (last_line (shown d)))
last-text d root value at is some = grind (arith, nat_tests, cost_in-some)

-- the line of an Or node
pub or-text : (first count : ℕ) → codes "O 0" ++ ((32 ∷ decimal count) ++ (numbers_text (range_with_len first count) ++ 10 ∷ [])) ≡ spaced (node_words (or_behind (first + count) count))
or-text first count = grind (arith, nat_tests, or-spaced, length-range_with_len)

-- the line of an And node
pub and-text : (d : Drawing) (kids : List ℕ) → codes "A" ++ ((32 ∷ decimal (length kids)) ++ (flat_map (λ child. 32 ∷ decimal (slice_index d.lines child)) kids ++ 10 ∷ []))
    ≡ lines_text (and_over (map (own_line (shown d)) kids) ∷ [])
and-text d kids =
    grind (arith, length-map kids (own_line (shown d)), flat_map-map (λ n. 32 ∷ decimal n) (own_line (shown d)) kids, and-spaced (map (own_line (shown d)) kids), append-nil (spaced (node_words (and_over (map (own_line (shown d)) kids)))))

kids-text : (d : Drawing) (node cost : ℕ) (kids : List ℕ) → flat_map (child_text d node cost) kids ≡ lines_text (map (child_line (shown d) node) (cheapest_children (map cost_in d.values) cost kids))
kids-text d node cost [] = refl
kids-text d node cost (k ∷ kids) = grind (arith, nat_tests, kids-text d node cost kids)

pub or-lines-text : (d : Drawing) (node cost : ℕ) (kids : List ℕ)
    → flat_map (child_text d node cost) kids ++ spaced (node_words (or_behind (slice_index d.lines node) (length (cheapest_children (map cost_in d.values) cost kids))))
    ≡ lines_text (or_lines (shown d) node (cheapest_children (map cost_in d.values) cost kids))
or-lines-text d node cost kids = grind (arith, nat_tests, kids-text, append-nil, flat_map-append)

-- ---- a node's children and its line

own-at : (least : List (Option ℕ)) (line number : ℕ) (nodes : List Node) (i : ℕ) → i < length nodes
    → lines_to least (node_at nodes i) (cost_at least (number + i)) ≤ get_or (own_lines least line number nodes) i 0
own-at least line number [] i lt = absurd (omega arith)
own-at least line number (node ∷ nodes) zero lt = let e : number ≡ number + 0 = omega arith in subst (λ n. lines_to least node (cost_at least n) ≤ line + lines_to least node (cost_at least number)) e (omega arith)
own-at least line number (node ∷ nodes) (suc i) lt = grind (arith, nat_tests, own-at least (line + lines_to least node (cost_at least number) + 1) (number + 1) nodes i)

-- a child of an Or node
pub child-under : (d : Drawing) (node : ℕ) (kids : List ℕ) → node < length d.graph.nodes → node_at d.graph.nodes node ≡ record { what = Or; kids = kids } → (i : ℕ) → i < length kids → IsUnder d (Some node) (get_or kids i 0)
child-under d node kids lt at i h = (lt, record { what = cc; place = i; within = grind (arith, at); child_is = cc })

pub kids-inside : (graph : Graph) → IsGraph graph → (node : ℕ) → node < length graph.nodes → (kids : List ℕ) → kids ≡ (node_at graph.nodes node).kids → All (λ child. child < length graph.nodes) kids
kids-inside graph ok node lt kids over k default h =
    let below = subst (λ ks. All (λ child. child < node) ks) (sym over) (below-each node (node_at graph.nodes node).kids (fits-at graph.vars graph.nodes node ok.nodes.fit lt).below) in
    omega (arith, below k default h, lt)

module _ (d : Drawing) (is : IsDrawing d) (node : ℕ) (lt : node < length d.graph.nodes) (what : NodeKind) (kids : List ℕ) (at : node_at d.graph.nodes node ≡ record { what = what; kids = kids }) where
  pub few-kids-of : what ≡ Or → length kids < 2 ^ 32
  few-kids-of or = ltb-true (length kids) CHILD_LIMIT (ap (λ w. kind_fits d.graph.vars w kids) (sym or) ∙ (subst (Fits d.graph.vars node) at (fits-at d.graph.vars d.graph.nodes node is.valid.nodes.fit lt)).kind)

  pub child-wider : what ≡ Or → (i part : ℕ) → i < length kids → mentions d.graph.nodes part (get_or kids i 0) ≡ true → mentions d.graph.nodes part node ≡ true
  child-wider or i part h m = child-mentions d.graph node kids is.valid lt (ap (λ (n : Node). n.kids) (sym at)) i (ap (λ (n : Node). n.what) at ∙ or) h part m

  pub line-room : what ≡ Or → (cost : ℕ) → cost_at (map cost_in d.values) node ≡ Some cost → length (cheapest_children (map cost_in d.values) cost kids) ≤ slice_index d.lines node
  line-room or cost e = grind (arith, nat_tests, own-at)
