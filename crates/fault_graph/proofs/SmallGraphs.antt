-- The nodes of the smaller graph, one after the other, and the places of the replacements so far.
use Rattle.std.proofs.Common.{◌≡◌, ◌≢◌, ℕ, ◌+◌, ◌-◌, ◌<◌, ◌≤◌, Bool, true, false, List, [], ◌∷◌, ◌++◌, map, length, take, get_or, set, All, Option, Some, refl, ap, sym, ◌∙◌, subst, arith, inl, inr, ⊎_elim, length-append, get_or-set_same, get_or-set_other}
use Rattle.std.specs.Prelude.{◌⊎◌, slice_get, nat_lt}
use Rattle.std.specs.List.{list_any, filter}
use Rattle.std.proofs.Math.Bool.{and-true, or-false}
use Rattle.std.proofs.Math.ListN.{length-map}
use Rattle.std.proofs.lemmas.Bool.{and_from, cases_lt, leb-true, le-leb, ltb-true, lt-ltb, false≢true, cases_eq, false_from_ne_true}
use Rattle.std.proofs.lemmas.List.Sums.{sum_by-take-le}
use Rattle.std.proofs.lemmas.Option.{slice_get-get_or, get_or_from_slice_get, same_Some}
use Rattle.std.proofs.lemmas.List.{nil_from_length}
use Rattle.state_rules.specs.Assignments.{Assignment}
use Rattle.state_rules.proofs.Members.{In, In-map, In-filtered, AtMost, from_map, In-filter, In-at}
use Rattle.state_rules.proofs.Lists.{length-filter-le}
use Rattle.state_rules.specs.declared.nodes.NodeKind.{NodeKind}
use Rattle.state_rules.specs.declared.nodes.NodeKind.TheVariants.{Literal, And, Or}
use Rattle.state_rules.specs.Graphs.{Node, Graph, true_node, node_at, truth_by, mention_by, is_true, mentions, apart_at, kind_fits, node_fits, AreNodes, IsGraph, edges}
use Rattle.state_rules.proofs.NodeValues.{are_below, value_of-last, are_below-from}
use Rattle.state_rules.proofs.NodesFit.{fits-get, apart-get, literal, AreNodes-push}
use Rattle.node_store.proofs.NodeCopies.{take-more, edges-push}
use Rattle.conditioner.specs.Models.{total_cost}
use Rattle.minimiser.specs.Costs.{part_cost, known_at, sum_costs, cheapest, least_at}
use Rattle.minimiser.specs.Stored.{AreLeastCosts}
use Rattle.minimiser.specs.inner.Swept.{is_child}
use Rattle.minimiser.proofs.Costs.{from_add, and_left, and_right}
use Rattle.minimiser.proofs.Models.{LeastIs}
use Rattle.minimiser.proofs.Sums.{cost_in-some}
use Rattle.minimiser.proofs.Derivations.{is_cost, mention-at, costs-at, below, all-below, cheapest-child, sum-child}
use Rattle.minimiser.proofs.Valued.{value-is, cost_in-is}
use Rattle.minimiser.proofs.SpreadMarks.{child-in, child-out, child_before, root-low}
use Rattle.fault_graph.specs.Small.{HasParent, Joins}
use Rattle.fault_graph.specs.inner.Marks.{HasMarkedParent, AreMarks}
use Rattle.fault_graph.specs.inner.Rows.{keeps, kept_children, Adds, root_node}
use Rattle.fault_graph.proofs.LeastNodes.{StandsFor, StandsFor-same}
use Rattle.fault_graph.proofs.Replacements.{ChildrenStand, node-stands, narrower-any, narrower-apart}
use Rattle.fault_graph.proofs.PlaceCosts.{faults_in-all}
use Rattle.fault_graph.proofs.SmallPlaces.{IsPlace, place-more, IsFrom, AreFrom, from-push, AllJoin, joins-before, joins-push, parent-more, parent-last, Waits, IsNeeded, waits-on}
use Rattle.fault_graph.proofs.Smallness.{small-from}
use Rattle.fault_graph.proofs.Roots.{IsWhole, whole}

-- ---- lists

row-le : (values places : List ℕ) (cost : ℕ) (kids : List ℕ) → length (kept_children values places cost kids) ≤ length kids
row-le values places cost kids = omega (arith, length-map (filter (keeps values cost) kids) (λ k. get_or places k 0), length-filter-le (keeps values cost) kids)

-- if each child costs nothing, so does their sum
free-sum : (C : ℕ → Option ℕ) (kids : List ℕ) (c : ℕ) → sum_costs (map C kids) ≡ Some c → ((j d : ℕ) → In j kids → C j ≡ Some d → d ≡ 0) → c ≡ 0
free-sum C [] c e h = sym (same_Some 0 c e)
free-sum C (k ∷ kids) c e h =
    let s = from_add (C k) (sum_costs (map C kids)) c e in
    omega (arith, s.sum_is, h k s.left (inl refl) s.left_is, free-sum C kids s.right s.right_is (λ j d i. h j d (inr i)))

-- an item of a row is the place of a child that stays
row-source : (keep : ℕ → Bool) (place : ℕ → ℕ) (kids : List ℕ) (q : ℕ) → In q (map place (filter keep kids)) → (j : ℕ) × In j kids × (keep j ≡ true) × (place j ≡ q)
row-source keep place kids q m = let x = from_map place q (filter keep kids) m in let r = In-filter keep x.item kids x.is_in in (x.item, r.0, r.1, sym x.gives)

row-below : (keep : ℕ → Bool) (place : ℕ → ℕ) (own : ℕ) (kids : List ℕ) → ((j : ℕ) → In j kids → keep j ≡ true → place j < own) → are_below own (map place (filter keep kids)) ≡ true
row-below keep place own kids h =
    let row : List ℕ = map place (filter keep kids) in
    are_below-from own row (λ i d lt. let x = row-source keep place kids (get_or row i d) (In-at row i d lt) in subst (λ k. k < own) x.3 (h x.0 x.1 x.2))

row-kind : (vars : ℕ) (values places : List ℕ) (cost : ℕ) (what : NodeKind) (kids : List ℕ) → kind_fits vars what kids ≡ true → kind_fits vars what (kept_children values places cost kids) ≡ true
row-kind vars values places cost what kids fit = grind (arith, row-le, ltb-true)

keeps-out : (values : List ℕ) (cost j : ℕ) → keeps values cost j ≡ true → (0 < get_or values j 0) × (get_or values j 0 ≤ cost)
keeps-out values cost j e = (ltb-true 0 (get_or values j 0) (and_left _ _ e), leb-true _ _ (and_right (nat_lt 0 (get_or values j 0)) _ e))

keeps-not : (values : List ℕ) (cost j : ℕ) → keeps values cost j ≡ false → (get_or values j 0 ≡ 0) ⊎ (cost < get_or values j 0)
keeps-not values cost j e = grind (arith, and_from, lt-ltb, le-leb, cases_lt)

-- ---- the nodes so far

module _ (graph : Graph) (evidence costs : List ℕ) where
  -- the nodes of the graph before `at` are done: those that are marked and cost something have a replacement
  pub record IsBuilt (values marks places : List ℕ) (nodes : List Node) (at : ℕ) : Type 0 where
    pub are : AreNodes graph.vars nodes
    pub few : length nodes ≤ at
    pub few_edges : edges nodes ≤ edges (take at graph.nodes)
    pub ahead : (k : ℕ) → at ≤ k → get_or places k 0 ≡ get_or marks k 0
    pub built : (k c : ℕ) → k < at → get_or marks k 0 ≡ 1 → least_at graph evidence costs k ≡ Some c → 0 < c → IsPlace graph evidence costs nodes k c (get_or places k 0)
    pub from : AreFrom graph evidence costs nodes
    pub joins : AllJoin nodes
    pub needed : (p : ℕ) → p < length nodes → IsNeeded graph values marks places nodes at p

  -- there is room for the replacement of the next node if there is as much as the graph has
  pub has-room : (values marks places : List ℕ) (nodes : List Node) (at : ℕ) → at < length graph.nodes → IsBuilt values marks places nodes at
      → (length nodes < length graph.nodes) × (edges nodes + length (node_at graph.nodes at).kids ≤ edges graph.nodes)
  has-room values marks places nodes at lt is =
      let e = slice_get-get_or graph.nodes at true_node lt in
      (omega (arith, is.few), omega (arith, is.few_edges, ap edges (take-more graph.nodes at _ e), edges-push (take at graph.nodes) (node_at graph.nodes at), sum_by-take-le (λ (x : Node). length x.kids) graph.nodes (at + 1)))

module _ (graph : Graph) (evidence costs : List ℕ) (ok : IsGraph graph) (long : length evidence ≡ graph.vars) (within : length costs ≤ graph.vars) (total : total_cost costs < 2147483647)
    (most : ℕ) (least_most : LeastIs graph costs evidence most) (values : List ℕ) (v : AreLeastCosts graph evidence costs values) (marks : List ℕ) (m : AreMarks graph.nodes values marks 0) where
  abbrev root : ℕ
  root = length graph.nodes - 1

  marked-cost : (k : ℕ) → k < length graph.nodes → get_or marks k 0 ≡ 1 → least_at graph evidence costs k ≡ Some (get_or values k 0)
  marked-cost k h e = sym (value-is graph evidence costs values v k h) ∙ cost_in-some (get_or values k 0) (λ z. absurd (omega (arith, z, m.low k h e, root-low graph evidence costs ok long within total most least_most values v)))

  cost-value : (k c : ℕ) → k < length graph.nodes → least_at graph evidence costs k ≡ Some c → get_or values k 0 ≡ c
  cost-value k c h e = cost_in-is (get_or values k 0) c (value-is graph evidence costs values v k h ∙ e)

  -- a node that is not marked
  pub built-past : (places : List ℕ) (nodes : List Node) (at : ℕ) → at < length graph.nodes → IsBuilt graph evidence costs values marks places nodes at → get_or places at 0 ≢ 1
      → IsBuilt graph evidence costs values marks places nodes (at + 1)
  built-past places nodes at lt is none = record {
    are = is.are;
    few = omega (arith, is.few);
    few_edges = let e = slice_get-get_or graph.nodes at true_node lt in omega (arith, is.few_edges, ap edges (take-more graph.nodes at _ e), edges-push (take at graph.nodes) (node_at graph.nodes at));
    ahead = λ k h. is.ahead k (omega arith);
    built = λ k c h e f dear. grind (arith, cases_eq k at, out, is.built k c);
    from = is.from;
    joins = is.joins;
    needed = λ p h. past p (is.needed p h);
  } where
    out : get_or marks at 0 ≢ 1
    out e = none (is.ahead at (omega arith) ∙ e)

    past : (p : ℕ) → IsNeeded graph values marks places nodes at p → IsNeeded graph values marks places nodes (at + 1) p
    past p (inl h) = inl h
    past p (inr w) = inr (waits-on graph values marks places places at p w (λ s. out (ap (λ n. get_or marks n 0) (sym s) ∙ w.marked)) w.there)

  module _ (places : List ℕ) (nodes : List Node) (at : ℕ) (lt : at < length graph.nodes) (is : IsBuilt graph evidence costs values marks places nodes at) (mark : get_or places at 0 ≡ 1)
      (what : NodeKind) (kids : List ℕ) (e : slice_get graph.nodes at ≡ Some (record { what = what; kids = kids })) where
    abbrev c : ℕ
    c = get_or values at 0

    abbrev keep : ℕ → Bool
    keep j = keeps values c j

    abbrev place : ℕ → ℕ
    place j = get_or places j 0

    abbrev row : List ℕ
    row = kept_children values places c kids

    node-mark : get_or marks at 0 ≡ 1
    node-mark = sym (is.ahead at (omega arith)) ∙ mark

    costly : get_or values at 0 ≢ 0
    costly z = omega (arith, z, m.dear at lt node-mark)

    cost-is : least_at graph evidence costs at ≡ Some c
    cost-is = marked-cost at lt node-mark

    earlier : (j : ℕ) → In j kids → j < at
    earlier j i = all-below at kids j (below graph evidence costs ok at _ e) i

    child-mark : (j : ℕ) → In j kids → 0 < get_or values j 0 → get_or values j 0 ≤ c → get_or marks j 0 ≡ 1
    child-mark j i dear h = m.down at j (omega arith) lt node-mark (subst (λ (n : Node). is_child n.kids j ≡ true) (sym (get_or_from_slice_get graph.nodes at _ true_node e)) (child-in kids j i)) dear h

    child-place : (j : ℕ) → In j kids → keep j ≡ true → IsPlace graph evidence costs nodes j (get_or values j 0) (place j)
    child-place j i k =
        let p = keeps-out values c j k in
        let h = child-mark j i p.0 p.1 in
        is.built j (get_or values j 0) (earlier j i) h (marked-cost j (omega (arith, earlier j i)) h) p.0

    kids-stand : ChildrenStand graph evidence costs ok keep place (λ p a. is_true nodes p a) kids c
    kids-stand = record {
      stay = grind (arith, marked-cost, earlier, child-mark, child-place);
      rest = λ j d i k f.
          let same = cost-value j d (omega (arith, earlier j i)) f in
          subst (λ x. (x ≡ 0) ⊎ (c < x)) same (keeps-not values c j k);
    }

    stands : StandsFor (known_at evidence) (part_cost costs) (length costs) (λ a. is_true graph.nodes at a) (λ w. mentions graph.nodes w at) c (λ a. truth_by a what (map (λ p. is_true nodes p a) row))
    stands = node-stands graph evidence costs ok keep place (λ p a. is_true nodes p a) at c what kids e cost-is (omega arith) kids-stand

    inside : (w : ℕ) → mention_by w what (map (mentions nodes w) row) ≡ true → mentions graph.nodes w at ≡ true
    inside w h = mention-at graph evidence costs ok at _ e w ∙ by_kind what h where
      any : list_any (λ b. b) (map (mentions nodes w) row) ≡ true → list_any (λ b. b) (map (mentions graph.nodes w) kids) ≡ true
      any h = narrower-any keep place (mentions nodes w) (mentions graph.nodes w) kids (λ j i k s. (child-place j i k).inside w s) h

      by_kind : (what : NodeKind) → mention_by w what (map (mentions nodes w) row) ≡ true → mention_by w what (map (mentions graph.nodes w) kids) ≡ true
      by_kind (Literal positive var) h = h
      by_kind what h = any h

    below-all : are_below (length nodes) row ≡ true
    below-all = row-below keep place (length nodes) kids (λ j i k. (child-place j i k).there)

    fits : node_fits graph.vars (length nodes) (record { what = what; kids = row }) ≡ true
    fits = and_from _ _ below-all (row-kind graph.vars values places c what kids (fits-get graph.vars graph.nodes at _ ok.nodes.fit e).kind)

    apart : (w : ℕ) → apart_at (mentions nodes w) what row ≡ true
    apart w = by_kind what (apart-get (mentions graph.nodes w) graph.nodes at _ (ok.nodes.apart w) e) where
      by_kind : (what : NodeKind) → apart_at (mentions graph.nodes w) what kids ≡ true → apart_at (mentions nodes w) what row ≡ true
      by_kind And h = narrower-apart keep place (mentions nodes w) (mentions graph.nodes w) kids (λ j i k s. (child-place j i k).inside w s) h
      by_kind what h = refl

    pub are-pushed : AreNodes graph.vars (nodes ++ record { what = what; kids = row } ∷ [])
    are-pushed = AreNodes-push graph.vars nodes (record { what = what; kids = row }) is.are fits apart

    pub pushed : IsPlace graph evidence costs (nodes ++ record { what = what; kids = row } ∷ []) at c (length nodes)
    pushed = record {
      there = omega (arith, length-append nodes (record { what = what; kids = row } ∷ []));
      stands = StandsFor-same (known_at evidence) (part_cost costs) (length costs) (λ a. refl) (λ w. refl) refl (λ a. value_of-last (truth_by a) nodes (record { what = what; kids = row })) stands;
      inside = λ w h. inside w (sym (value_of-last (mention_by w) nodes (record { what = what; kids = row })) ∙ h);
    }

    -- one child that stays replaces the node
    only : (p : ℕ) → row ≡ p ∷ [] → IsPlace graph evidence costs nodes at c p
    only p one = record {
      there = ltb-true p (length nodes) (and_left _ _ (subst (λ ks. are_below (length nodes) ks ≡ true) one below-all));
      stands = StandsFor-same (known_at evidence) (part_cost costs) (length costs) (λ a. refl) (λ w. refl) refl (λ a. sym (ap (λ ks. truth_by a what (map (λ q. is_true nodes q a) ks)) one ∙ truth-one a what e)) stands;
      inside = λ w h. inside w (ap (λ ks. mention_by w what (map (mentions nodes w) ks)) one ∙ mention-one w what e h);
    } where
      no-literal : (var : ℕ) (positive : Bool) → slice_get graph.nodes at ≡ Some (record { what = Literal positive var; kids = kids }) → ⊥
      no-literal var positive f =
          let alone : kids ≡ [] = (literal graph.vars var positive kids (fits-get graph.vars graph.nodes at _ ok.nodes.fit f).kind).alone in
          absurd (let none : [] ≡ p ∷ [] = sym (ap (kept_children values places c) alone) ∙ one in cc)

      truth-one : (a : Assignment) (what : NodeKind) → slice_get graph.nodes at ≡ Some (record { what = what; kids = kids }) → truth_by a what (map (λ q. is_true nodes q a) (p ∷ [])) ≡ is_true nodes p a
      truth-one a (Literal positive var) f = absurd (no-literal var positive f)
      truth-one a And f = and-true (is_true nodes p a)
      truth-one a Or f = or-false (is_true nodes p a)

      mention-one : (w : ℕ) (what : NodeKind) → slice_get graph.nodes at ≡ Some (record { what = what; kids = kids }) → mentions nodes w p ≡ true → mention_by w what (map (mentions nodes w) (p ∷ [])) ≡ true
      mention-one w (Literal positive var) f h = absurd (no-literal var positive f)
      mention-one w what f h = or-false (mentions nodes w p) ∙ h

    -- ---- where it comes from, and what it is needed for

    or-child : what ≡ Or → (q : ℕ) → In q row → IsFrom graph evidence costs nodes c q
    or-child o q i =
        let x = row-source keep place kids q i in
        let p = keeps-out values c x.0 x.2 in
        let is_cost = marked-cost x.0 (omega (arith, earlier x.0 x.1)) (child-mark x.0 x.1 p.0 p.1) in
        let least : cheapest (map (least_at graph evidence costs) kids) ≡ Some c = sym (costs-at graph evidence costs ok at _ (e ∙ ap (λ (w : NodeKind). Some (record { what = w; kids = kids })) o)) ∙ cost-is in
        let high : c ≤ get_or values x.0 0 = subst (λ d. AtMost d (get_or values x.0 0)) least (cheapest-child (least_at graph evidence costs) kids x.0 (get_or values x.0 0) x.1 is_cost) in
        let same : get_or values x.0 0 ≡ c = omega (arith, high, p.1) in
        subst (λ d. IsFrom graph evidence costs nodes d q) same
        (subst (λ r. IsFrom graph evidence costs nodes (get_or values x.0 0) r) x.3 (record { node = x.0; dear = p.0; is = is_cost; place = child-place x.0 x.1 x.2 }))

    pub from-pushed : AreFrom graph evidence costs (nodes ++ record { what = what; kids = row } ∷ [])
    from-pushed = from-push graph evidence costs nodes (record { what = what; kids = row }) c is.from (record { node = at; dear = omega arith; is = cost-is; place = pushed }) or-child

    -- an And node or an Or node that costs something has a child that stays
    joined : length row ≢ 1 → Joins what (length row)
    joined many = by_kind what refl where
      out : row ≡ [] → (j : ℕ) → In j kids → keep j ≡ false
      out none j i = false_from_ne_true (keep j) (λ k. subst (In (place j)) none (In-map place j (filter keep kids) (In-filtered keep j kids i k)))

      no-and : what ≡ And → row ≡ [] → ⊥
      no-and o none =
          let sum : sum_costs (map (least_at graph evidence costs) kids) ≡ Some c = sym (costs-at graph evidence costs ok at _ (e ∙ ap (λ (w : NodeKind). Some (record { what = w; kids = kids })) o)) ∙ cost-is in
          costly (free-sum (least_at graph evidence costs) kids c sum
          (λ j d i f.
          let most = sum-child (least_at graph evidence costs) kids c j sum i in
          grind (arith, most.2, same_Some most.0 d (sym most.1 ∙ f), cost-value j d (omega (arith, earlier j i)) f, keeps-not values c j (out none j i))))

      no-or : what ≡ Or → row ≡ [] → ⊥
      no-or o none =
          let r = (is_cost graph evidence costs ok at).reached c cost-is in
          false≢true (subst (λ w. truth_by r.by w (map (λ p. is_true nodes p r.by) []) ≡ true) o (subst (λ ps. truth_by r.by what (map (λ p. is_true nodes p r.by) ps) ≡ true) none (stands.onto r.by r.agrees r.holds (omega (arith, r.cheap, faults_in-all (known_at evidence) (part_cost costs) (length costs) (λ w. mentions graph.nodes w at) r.by)))))

      some : (row ≡ [] → ⊥) → 1 < length row
      some not = ⊎_elim (λ (p : 1 < length row). p) (λ (p : length row ≤ 1). absurd (not (nil_from_length row (omega (arith, p, many))))) (cases_lt 1 (length row))

      by_kind : (w : NodeKind) → what ≡ w → Joins w (length row)
      by_kind (Literal positive var) o = tt
      by_kind And o = some (no-and o)
      by_kind Or o = some (no-or o)

    -- a place that waits for this node is in its row
    in-row : (q : ℕ) (w : Waits graph values marks places at q) → w.parent ≡ at → In q row
    in-row q w s = grind (arith, get_or_from_slice_get, graph.nodes, w.there, In-map, In-filtered)

    -- a place that waits for another node goes on
    carry : (new : List Node) (p q : ℕ) → Waits graph values marks places at q → (In q row → IsNeeded graph values marks (set places at p) new (at + 1) q) → IsNeeded graph values marks (set places at p) new (at + 1) q
    carry new p q w met = ⊎_elim
        (λ (s : w.parent ≡ at). met (in-row q w s))
        (λ (ne : w.parent ≢ at). let other : w.child ≢ at = omega (arith, w.met) in inr (waits-on graph values marks places (set places at p) at q w ne ((rw get_or-set_other refl) ∙ w.there)))
        (cases_eq w.parent at)

    -- the node waits for a marked parent
    waits : (p : ℕ) → at < root → at < length places → Waits graph values marks (set places at p) (at + 1) p
    waits p early room = ⊎_elim
        (λ (r : at ≡ length graph.nodes - 1). absurd (omega (arith, r, early)))
        (λ (h : HasMarkedParent graph.nodes values marks at). record {
          parent = h.parent;
          from = omega (arith, child_before graph h.parent at ok h.within h.child);
          within = h.within;
          marked = h.marked;
          child = at;
          met = omega arith;
          is_child = child-out (node_at graph.nodes h.parent).kids at h.child;
          stays = and_from _ _ (lt-ltb 0 c (omega arith)) (le-leb _ _ h.cheap);
          there = rw get_or-set_same refl;
        })
        (m.up at lt node-mark)

    needed-pushed : at < root → at < length places → (q : ℕ) → q < length (nodes ++ record { what = what; kids = row } ∷ []) → IsNeeded graph values marks (set places at (length nodes)) (nodes ++ record { what = what; kids = row } ∷ []) (at + 1) q
    needed-pushed early room q h = grind (arith, waits, length-append, cases_eq, parent-more, carry, parent-last)

    needed-only : (p : ℕ) → row ≡ p ∷ [] → at < root → at < length places → (q : ℕ) → q < length nodes → IsNeeded graph values marks (set places at p) nodes (at + 1) q
    needed-only p one early room q h = grind (arith, carry, waits)

    -- if the node is the last of the graph, all that is there is needed
    pub all-needed : length graph.nodes ≤ at + 1 → (q : ℕ) → q < length nodes → HasParent (nodes ++ record { what = what; kids = row } ∷ []) q
    all-needed end q h = by_need (is.needed q h) where
      by_need : IsNeeded graph values marks places nodes at q → HasParent (nodes ++ record { what = what; kids = row } ∷ []) q
      by_need (inl x) = parent-more nodes (record { what = what; kids = row }) q x
      by_need (inr w) = parent-last nodes (record { what = what; kids = row }) q (in-row q w (omega (arith, end, w.from, w.within)))

    -- the replacement of the node is there now
    noted : (new : List Node) (p : ℕ) → at < length places → AreNodes graph.vars new → length new ≤ at + 1 → edges new ≤ edges (take (at + 1) graph.nodes)
        → ((k d q : ℕ) → IsPlace graph evidence costs nodes k d q → IsPlace graph evidence costs new k d q) → IsPlace graph evidence costs new at c p
        → AreFrom graph evidence costs new → AllJoin new → ((q : ℕ) → q < length new → IsNeeded graph values marks (set places at p) new (at + 1) q) → IsBuilt graph evidence costs values marks (set places at p) new (at + 1)
    noted new p room are few few_edges more here from joins needed = record {
      are = are;
      few = few;
      few_edges = few_edges;
      ahead = λ k h. let ne : k ≢ at = omega arith in (rw get_or-set_other refl) ∙ is.ahead k (omega arith);
      built = λ k d h f g dear. grind (arith, cases_eq k at, more, is.built k d, here, cost-is, get_or-set_same {A = ℕ}, get_or-set_other {A = ℕ});
      from = from;
      joins = joins;
      needed = needed;
    }

    edges-so-far : edges nodes + length row ≤ edges (take (at + 1) graph.nodes)
    edges-so-far = omega (arith, is.few_edges, ap edges (take-more graph.nodes at _ e), edges-push (take at graph.nodes) (record { what = what; kids = kids }), row-le values places c kids)

    pub built-added : (new : List Node) (p : ℕ) → at < length places → at < root → Adds nodes (record { what = what; kids = row }) new p → IsBuilt graph evidence costs values marks (set places at p) new (at + 1)
    built-added new p room early (inl (same, one)) =
        subst (λ ns. IsBuilt graph evidence costs values marks (set places at p) ns (at + 1)) (sym same)
        (noted nodes p room is.are (omega (arith, is.few)) (omega (arith, edges-so-far)) (λ k d q x. x) (only p one) is.from is.joins (needed-only p one early room))
    built-added new p room early (inr (same, last, many)) =
        subst (λ ns. IsBuilt graph evidence costs values marks (set places at p) ns (at + 1)) (sym same)
        (subst (λ q. IsBuilt graph evidence costs values marks (set places at q) (nodes ++ record { what = what; kids = row } ∷ []) (at + 1)) (sym last)
        (noted (nodes ++ record { what = what; kids = row } ∷ []) (length nodes) room are-pushed (omega (arith, is.few, length-append nodes (record { what = what; kids = row } ∷ []))) (omega (arith, edges-so-far, edges-push nodes (record { what = what; kids = row })))
        (λ k d q x. place-more graph evidence costs nodes (record { what = what; kids = row }) k d q x) pushed from-pushed (joins-push nodes (record { what = what; kids = row }) is.joins (joined many)) (needed-pushed early room)))

  -- ---- the root

  pub root-added : All (λ c. 0 < c) costs → (places : List ℕ) (nodes new : List Node) (at : ℕ) → at ≡ root → IsBuilt graph evidence costs values marks places nodes at
      → new ≡ nodes ++ root_node graph values places ∷ [] → IsWhole graph evidence costs ok long within new
  root-added dears places nodes new at end is same = subst (IsWhole graph evidence costs ok long within) (sym same)
      (whole graph evidence costs ok long within dears nodes node (get_or values root 0) (are-pushed places nodes root there built mark (node_at graph.nodes root).what (node_at graph.nodes root).kids e) built.few
      (omega (arith, edges-push nodes node, edges-so-far places nodes root there built mark (node_at graph.nodes root).what (node_at graph.nodes root).kids e, sum_by-take-le (λ (x : Node). length x.kids) graph.nodes (root + 1)))
      (marked-cost root there m.root) (pushed places nodes root there built mark (node_at graph.nodes root).what (node_at graph.nodes root).kids e).stands
      (λ sound. small-from graph (record { nodes = nodes ++ node ∷ []; vars = graph.vars }) evidence costs ok sound
      (from-pushed places nodes root there built mark (node_at graph.nodes root).what (node_at graph.nodes root).kids e)
      (λ p h. all-needed places nodes root there built mark (node_at graph.nodes root).what (node_at graph.nodes root).kids e (omega arith) p (omega (arith, h, length-append nodes (node ∷ []))))
      (λ p h. joins-before nodes node built.joins p (omega (arith, h, length-append nodes (node ∷ [])))))) where
        there : root < length graph.nodes
        there = omega (arith, ok.some)

        built : IsBuilt graph evidence costs values marks places nodes root
        built = subst (λ n. IsBuilt graph evidence costs values marks places nodes n) end is

        e : slice_get graph.nodes root ≡ Some (node_at graph.nodes root)
        e = slice_get-get_or graph.nodes root true_node there

        mark : get_or places root 0 ≡ 1
        mark = built.ahead root (omega arith) ∙ m.root

        node : Node
        node = root_node graph values places
