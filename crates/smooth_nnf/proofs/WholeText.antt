-- The text of the diagnoses is read as a smooth and decomposable graph over the parts, true for the diagnoses alone.
use Rattle.std.proofs.Common.{◌≡◌, ℕ, ◌+◌, ◌-◌, ◌*◌, ◌^◌, ◌<◌, ◌≤◌, Bool, true, false, ◌&&◌, All, List, [], ◌∷◌, ◌++◌, map, length, Option, Some, None, refl, ap, sym, ◌∙◌, subst, arith, append_assoc, length-append}
use Rattle.std.proofs.lemmas.Bool.Decides.{nat_tests}
use Rattle.std.specs.Prelude.{nat_le}
use Rattle.std.specs.List.{list_any, flat_map, enumerate_from}
use Rattle.std.specs.Cmp.{both_ways}
use Rattle.std.specs.Cmp.Lexicographic.{pointwise}
use Rattle.std.proofs.Math.Bool.{and-true}
use Rattle.std.proofs.lemmas.Bool.{and_from, le-leb, false≢true}
use Rattle.std.proofs.lemmas.List.{ext_get_or}
use Rattle.std.proofs.Math.Seq.{take-length}
use Rattle.text_rules.specs.Tokens.{is_neat}
use Rattle.state_rules.specs.Bits.{same_bit}
use Rattle.state_rules.specs.Assignments.{assignment}
use Rattle.state_rules.specs.Ranking.{cost, is_at_most}
use Rattle.state_rules.specs.Values.{values}
use Rattle.state_rules.proofs.Bits.{pointwise-refl, pointwise-equal}
use Rattle.state_rules.proofs.Members.{In, In-at, In-filter, any_from, any_in}
use Rattle.state_rules.specs.declared.nodes.NodeKind.{NodeKind}
use Rattle.state_rules.specs.Graphs.{Node, Graph, truth_by, mention_by, mentions, is_true, holds, IsGraph, edges}
use Rattle.state_rules.proofs.NodeValues.{value_of}
use Rattle.nnf_text.specs.GraphTexts.{parsed}
use Rattle.nnf_text.proofs.ReadingBack.{IsList, edges-le, graph_text-read, graph_text-is_neat}
use Rattle.nnf_text.specs.StateGraphs.{IsSmoothGraphOfStates}
use Rattle.conditioner.specs.Models.{models, least_under, diagnoses_under}
use Rattle.minimiser.specs.Costs.{part_cost, known_at, node_cost, least_at}
use Rattle.minimiser.specs.inner.Held.{held_cost}
use Rattle.minimiser.proofs.LeastOfModels.{AddHeld, least_is, state_of, assignment_of}
use Rattle.minimiser.proofs.Models.{diagnosis-in, diagnosis-out}
use Rattle.state_rules.specs.Numbers.{cost_in}
use Rattle.minimiser.specs.Stored.{costs_to, AreLeastCosts}
use Rattle.smooth_nnf.specs.Layouts.{Layout, own_lines, layout_of, literal_pairs, lines_to, node_lines, last_at, last_line, all_lines, least_graph, least_text}
use Rattle.smooth_nnf.specs.inner.Drawings.{lines_after}
use Rattle.smooth_nnf.proofs.LinePlaces.{lines_after-le}
use Rattle.smooth_nnf.proofs.LaterLines.{value_of-there, Stand, MayFollow, stand-behind}
use Rattle.smooth_nnf.proofs.DrawnMeaning.{Means}
use Rattle.smooth_nnf.proofs.Fillers.{length-literal_pairs}
use Rattle.smooth_nnf.proofs.DrawnLines.{Means-same, Drawn, over-mention, over-follows, over-means, length-lines, body, all-drawn}

-- how far the lines reach
all-lines-le : (least : List (Option ℕ)) (line : ℕ) (nodes : List Node) → lines_after least line 0 nodes ≤ line + length nodes + edges nodes
all-lines-le least line nodes = omega (arith, ap (lines_after least line 0) (take-length nodes), lines_after-le least line 0 nodes (length nodes))

costs-all : (graph : Graph) (evidence costs : List ℕ) → costs_to graph evidence costs (length graph.nodes) ≡ values (node_cost (known_at evidence) (part_cost costs)) graph.nodes
unfolding costs_to
costs-all graph evidence costs = ap (values (node_cost (known_at evidence) (part_cost costs))) (take-length graph.nodes)

-- with the least costs and line places a layout is the graph's
pub laid : (graph : Graph) (evidence costs xs ls : List ℕ) → AreLeastCosts graph evidence costs xs → ls ≡ own_lines (map cost_in xs) (2 * length costs) 0 graph.nodes
    → record { graph = graph; evidence = evidence; parts = length costs; least = map cost_in xs; lines = ls } ≡ layout_of graph evidence costs
laid graph evidence costs xs ls is at = grind (arith, nat_tests, costs-all)

module _ (graph : Graph) (evidence costs : List ℕ) (ok : IsGraph graph) (long : length evidence ≡ graph.vars) (within : length costs ≤ graph.vars) (dear : All (λ c. 0 < c) costs)
    (small : length graph.nodes + edges graph.nodes + 2 * length costs + 1 < 2 ^ 32) where
  abbrev L : Layout
  L = layout_of graph evidence costs

  abbrev parts : ℕ
  parts = length costs

  abbrev root : ℕ
  root = length graph.nodes - 1

  few : parts + 1 < 2 ^ 32
  few = omega arith

  abbrev lines : List Node
  lines = body graph evidence costs ok dear few

  abbrev front : List Node
  front = literal_pairs parts ++ lines

  abbrev last : Node
  last = last_line L

  abbrev all : List Node
  all = all_lines L

  all-is : all ≡ front ++ last ∷ []
  all-is = sym (append_assoc (literal_pairs parts) lines (last ∷ []))

  drawn-root : (c : ℕ) → least_at graph evidence costs root ≡ Some c → Drawn graph evidence costs ok dear few front root c
  drawn-root c e = (all-drawn graph evidence costs ok dear few).drawn root c (omega (arith, ok.some)) e

  -- ---- the last line

  last-follows : (o : Option ℕ) → least_at graph evidence costs root ≡ o → MayFollow parts front (last_at L root o)
  last-follows None e = record { below = refl; kind = refl; apart = λ v. refl; smooth = λ v. refl }
  last-follows (Some c) e = over-follows graph evidence costs ok dear few lines root c e (drawn-root c e) (λ v. true) (λ v h. refl)

  stand : Stand parts all
  stand = subst (Stand parts) (sym all-is) (stand-behind parts front (last ∷ []) (all-drawn graph evidence costs ok dear few).stand (last-follows (least_at graph evidence costs root) refl, tt))

  length-all : length all ≡ length front + 1
  length-all = ap length all-is ∙ length-append front (last ∷ [])

  last-value : (o : Option ℕ) → least_at graph evidence costs root ≡ o → (by : NodeKind → List Bool → Bool) → value_of by all (length all - 1) ≡ by (last_at L root o).what (map (value_of by front) (last_at L root o).kids)
  last-value o e by =
      let place : length all - 1 ≡ length front = omega (arith, length-all) in
      (λ j. value_of by (all-is j) (place j)) ∙ value_of-there by front last [] ∙ ap (λ m. by (last_at L root m).what (map (value_of by front) (last_at L root m).kids)) e

  -- the parts are below the last line
  last-mentions : (c : ℕ) → least_at graph evidence costs root ≡ Some c → (v : ℕ) → mentions all v (length all - 1) ≡ (nat_le 1 v && nat_le v parts)
  last-mentions c e v =
      last-value (Some c) e (mention_by v) ∙ over-mention graph evidence costs ok dear few lines root c e (drawn-root c e) (λ u. true) (λ u h. refl) v ∙ and-true (nat_le 1 v && nat_le v parts)

  last-means : (c : ℕ) → least_at graph evidence costs root ≡ Some c → Means graph evidence costs ok dear (λ a. is_true graph.nodes root a) (λ v. true) c (λ a. is_true all (length all - 1) a)
  last-means c e = Means-same graph evidence costs ok dear few (λ a. last-value (Some c) e (truth_by a)) (over-means graph evidence costs ok dear few lines root c e (drawn-root c e) (λ v. true) (λ v h. refl))

  -- ---- states and diagnoses

  abbrev ds : List (List Bool)
  ds = diagnoses_under graph evidence costs

  abbrev held : ℕ
  held = held_cost costs evidence

  least-under : (o : Option ℕ) → least_at graph evidence costs root ≡ o → least_under graph evidence costs ≡ AddHeld held o
  least-under o e = least_is graph evidence costs ok long within ∙ ap (AddHeld held) e

  -- there is a least cost if there is a diagnosis
  has-cost : (d : List Bool) → In d ds → (c : ℕ) × (least_at graph evidence costs root ≡ Some c)
  has-cost d m = by_cost (least_at graph evidence costs root) refl where
    by_cost : (o : Option ℕ) → least_at graph evidence costs root ≡ o → (c : ℕ) × (least_at graph evidence costs root ≡ Some c)
    by_cost (Some c) e = (c, e)
    by_cost None e =
        let low = In-filter (λ h. is_at_most (cost costs h) (least_under graph evidence costs)) d (models graph evidence parts) m in
        absurd (false≢true (sym (ap (is_at_most (cost costs d)) (least-under None e)) ∙ low.1))

  module _ (h : List Bool) (as_long : length h ≡ parts) where
    is_diagnosis : is_true all (length all - 1) (assignment h) ≡ true → list_any (pointwise same_bit h) ds ≡ true
    is_diagnosis t = by_cost (least_at graph evidence costs root) refl where
      by_cost : (o : Option ℕ) → least_at graph evidence costs root ≡ o → list_any (pointwise same_bit h) ds ≡ true
      by_cost None e = absurd (false≢true (sym (last-value None e (truth_by (assignment h))) ∙ t))
      by_cost (Some c) e =
          let g = (last-means c e).reached (assignment h) t in
          let s = state_of graph evidence costs ok long within g.is.by g.is.agrees g.is.holds in
          let same : h ≡ s.state = ext_get_or false h s.state (as_long ∙ sym s.long_state) (λ i lt.
          grind (arith, nat_tests, g.same (1 + i), s.bits i)) in
          any_in (pointwise same_bit h) s.state ds
          (diagnosis-in graph evidence costs (held + c) (least-under (Some c) e) s.state (record { long = s.long_state; model = s.model; cheap = omega (arith, s.cost_is, g.is.cheap) }))
          (subst (λ k. pointwise same_bit h k ≡ true) same (pointwise-refl h))

    is_shown : list_any (pointwise same_bit h) ds ≡ true → is_true all (length all - 1) (assignment h) ≡ true
    is_shown any =
        let r = any_from (pointwise same_bit h) ds any in
        let same = pointwise-equal h r.item r.passes in
        let known = has-cost r.item r.is_in in
        let c = known.0 in
        let p = diagnosis-out graph evidence costs (held + c) (least-under (Some c) known.1) r.item r.is_in in
        let x = assignment_of graph evidence costs ok long within r.item p.long p.model in
        (last-means c known.1).sound (assignment h) x.by x.agrees x.holds (omega (arith, x.cost_is, p.cheap)) (λ v part m.
        grind (arith, nat_tests, same, x.bits (v - 1)))

    pub least-holds : holds (least_graph graph evidence costs) h ≡ list_any (pointwise same_bit h) (diagnoses_under graph evidence costs)
    least-holds = both_ways _ _ is_diagnosis is_shown

  -- ---- its text

  body-length : (line i : ℕ) (nodes : List Node) → line + length (flat_map (node_lines L) (enumerate_from i nodes)) ≡ lines_after L.least line i nodes
  body-length line i [] = omega arith
  body-length line i (node ∷ nodes) = omega (
    arith,
    length-append (node_lines L (i, node)) (flat_map (node_lines L) (enumerate_from (i + 1) nodes)),
    length-lines graph evidence costs ok dear few i node (least_at graph evidence costs i),
    body-length (line + lines_to L.least node (least_at graph evidence costs i) + 1) (i + 1) nodes,
  )

  -- at most a line for each node and each child, two for each part, and one more
  pub all-le : length all ≤ length graph.nodes + edges graph.nodes + 2 * length costs + 1
  all-le = omega (arith, length-all, length-append (literal_pairs parts) lines, length-literal_pairs parts, body-length 0 0 graph.nodes, all-lines-le L.least 0 graph.nodes)

  pub all-are_list : IsList (length costs) all
  all-are_list = grind (arith, nat_tests, length-all, all-le, stand)

  -- the text has no blank line
  pub least_text-is_neat : is_neat (least_text graph evidence costs) ≡ true
  least_text-is_neat = graph_text-is_neat parts all all-are_list

  below-last : 0 < length ds → (part : ℕ) → 1 ≤ part → part ≤ parts → mentions all part (length all - 1) ≡ true
  below-last some part low high =
      let known = has-cost _ (In-at ds 0 [] some) in
      last-mentions known.0 known.1 part ∙ and_from _ _ (le-leb 1 part low) (le-leb part parts high)

  -- it is read as a smooth graph
  pub least_text-means : IsSmoothGraphOfStates (length costs) (diagnoses_under graph evidence costs) (parsed (least_text graph evidence costs))
  least_text-means = subst (IsSmoothGraphOfStates parts ds) (sym (graph_text-read parts all all-are_list))
      ((refl, stand.nodes.apart, (λ h as_long. least-holds h as_long)), stand.smooth, below-last)

  -- ---- as computed

  pub counted : (xs ls : List ℕ) (count : ℕ) → AreLeastCosts graph evidence costs xs → ls ≡ own_lines (map cost_in xs) (2 * length costs) 0 graph.nodes → count ≡ lines_after (map cost_in xs) (2 * length costs) 0 graph.nodes
      → count + 1 ≡ length (all_lines (record { graph = graph; evidence = evidence; parts = length costs; least = map cost_in xs; lines = ls }))
  counted xs ls count is at n = grind (arith, nat_tests, costs-all, laid, length-all, length-append, length-literal_pairs, body-length)

  pub edges-fit : (xs ls : List ℕ) → AreLeastCosts graph evidence costs xs → ls ≡ own_lines (map cost_in xs) (2 * length costs) 0 graph.nodes
      → edges (all_lines (record { graph = graph; evidence = evidence; parts = length costs; least = map cost_in xs; lines = ls })) < 2 ^ 64
  edges-fit xs ls is at = omega (arith, ap (λ l. edges (all_lines l)) (laid graph evidence costs xs ls is at), edges-le parts 0 all stand.nodes.fit, all-le)

pub count-fits : (graph : Graph) (costs : List ℕ) (least : List (Option ℕ)) → length graph.nodes + edges graph.nodes + 2 * length costs + 1 < 2 ^ 32 → lines_after least (2 * length costs) 0 graph.nodes + 1 < 2 ^ 32
count-fits graph costs least small = omega (arith, all-lines-le least (2 * length costs) graph.nodes)
