-- The lines of the nodes are those of a smooth graph, and each says what its node means.
use Rattle.std.proofs.Common.{◌≡◌, ℕ, ◌+◌, ◌-◌, ◌*◌, ◌^◌, ◌<◌, ◌≤◌, Bool, true, false, not, cond, ◌&&◌, ◌||◌, All, List, [], ◌∷◌, ◌++◌, map, length, get_or, Option, Some, None, refl, ap, sym, ◌∙◌, subst, arith, ⊎_elim, inl, inr, append_assoc, append-nil, length-append}
use Rattle.std.proofs.lemmas.Bool.Decides.{nat_tests}
use Rattle.std.specs.Prelude.{slice_get, slice_index, nat_lt, nat_le}
use Rattle.std.specs.List.{list_all, list_any, filter, flat_map, enumerate_from, range_with_len, AllByRecursion}
use Rattle.std.proofs.lemmas.Simd.{map-map}
use Rattle.std.proofs.lemmas.Bool.{and_from, and_parts, lt-ltb, ltb-true, le-leb, leb-true, cases_lt, and_right, not-true}
use Rattle.std.proofs.lemmas.List.{length-map, get_or_at}
use Rattle.std.proofs.lemmas.List.FromFn.{length-range_with_len}
use Rattle.std.proofs.lemmas.Option.{slice_get-get_or, same_Some}
use Rattle.std.proofs.Math.Bool.{and-true, or-false}
use Rattle.state_rules.proofs.Bits.{same_bit-refl}
use Rattle.state_rules.specs.Assignments.{Assignment}
use Rattle.state_rules.specs.Values.{values}
use Rattle.state_rules.proofs.Members.{In, from_map, In-at}
use Rattle.state_rules.proofs.Lists.{length-filter-le, list_any-map, any-never}
use Rattle.state_rules.specs.declared.nodes.TheConstants.{CHILD_LIMIT}
use Rattle.state_rules.specs.declared.nodes.NodeKind.{NodeKind}
use Rattle.state_rules.specs.declared.nodes.NodeKind.TheVariants.{Literal, And, Or}
use Rattle.state_rules.specs.Graphs.{at_most_one, Node, Graph, true_node, false_node, truth_by, mention_by, mentions, is_true, IsGraph}
use Rattle.state_rules.proofs.NodeValues.{are_below, value_of, are_below-from}
use Rattle.state_rules.proofs.NodesFit.{Fits, fits-get, literal}
use Rattle.state_rules.proofs.Children.{at_most_one-from, at_most_one-less, range-below}
use Rattle.nnf_text.specs.StateGraphs.{all_same}
use Rattle.minimiser.specs.Costs.{part_cost, known_at, cost_at, cheapest, node_cost, least_at}
use Rattle.minimiser.proofs.Costs.{from_min}
use Rattle.minimiser.proofs.Derivations.{mention-at, apart-kids, costs-at, all-below, sum-child}
use Rattle.smooth_nnf.specs.Layouts.{Layout, layout_of, own_line, literal_pairs, literal_line, literal_children, filling, fillers, costs_just, cheapest_children, lines_before, lines_to, own_lines, child_line, or_behind, or_lines, lines_by, lines_at, node_lines, and_over}
use Rattle.smooth_nnf.proofs.LaterLines.{value_of-front, value_of-there, values-behind, Stand, MayFollow, stand-behind}
use Rattle.smooth_nnf.proofs.DrawnMeaning.{is_part, Means, NodeMeans, filled, part-means, other-means, and-means, or-means, child-inside, cheapest-in, cheapest-is}
use Rattle.smooth_nnf.proofs.Fillers.{length-literal_pairs, room, pairs-stand, literal_line-lt, literal-value, fillers-below, fillers-mention, fillers-once, fillers-true, fillers-say, map-in}

-- ---- lists

pub any-part : (b : Bool) (f : ℕ → Bool) (kids : List ℕ) → list_any (λ x. x) (map (λ k. b && f k) kids) ≡ (b && list_any (λ x. x) (map f kids))
any-part true f kids = refl
any-part false f [] = refl
any-part false f (k ∷ kids) = any-part false f kids

any-const : (b : Bool) (kids : List ℕ) → (kids ≡ [] → ⊥) → list_any (λ x. x) (map (λ k. b) kids) ≡ b
any-const b [] some = absurd (some refl)
any-const true (k ∷ kids) some = refl
any-const false (k ∷ kids) some = list_any-map (λ x. x) (λ k. false) kids ∙ any-never kids

same-const : (b : Bool) (kids : List ℕ) → all_same (map (λ k. b) kids) ≡ true
same-const b [] = refl
same-const b (k ∷ []) = refl
same-const b (k ∷ j ∷ kids) = and_from _ _ (same_bit-refl b) (same-const b (k ∷ kids))

-- the least cost is that of a child
cheapest-has : (C : ℕ → Option ℕ) (kids : List ℕ) (c : ℕ) → cheapest (map C kids) ≡ Some c → (k : ℕ) × (In k kids × (C k ≡ Some c))
cheapest-has C [] c s = absurd (let no : None ≡ Some c = s in cc)
cheapest-has C (j ∷ kids) c s = grind (arith, nat_tests, from_min, cheapest-has C kids c)

module _ (graph : Graph) (evidence costs : List ℕ) (ok : IsGraph graph) (dear : All (λ c. 0 < c) costs) (small : length costs + 1 < 2 ^ 32) where
  abbrev L : Layout
  L = layout_of graph evidence costs

  abbrev parts : ℕ
  parts = length costs

  abbrev M : ℕ → ℕ → Bool
  M v k = mentions graph.nodes v k

  abbrev least : List (Option ℕ)
  least = values (node_cost (known_at evidence) (part_cost costs)) graph.nodes

  abbrev own : ℕ → ℕ
  own k = own_line L k

  abbrev part_of : ℕ → Bool
  part_of v = is_part graph evidence costs ok dear v

  pub Means-same : {t : Assignment → Bool} {m : ℕ → Bool} {c : ℕ} {line other : Assignment → Bool} → ((a : Assignment) → other a ≡ line a) → Means graph evidence costs ok dear t m c line → Means graph evidence costs ok dear t m c other
  Means-same same means = record {
    sound = λ a b ag h few agree. same a ∙ means.sound a b ag h few agree;
    reached = λ a h. means.reached a (sym (same a) ∙ h);
  }

  -- the line of a node is there, with the parts below it that the node has, and says what the node means
  pub record Drawn (lines : List Node) (k c : ℕ) : Type 0 where
    pub inside : slice_index (layout_of graph evidence costs).lines k < length lines
    pub mentioned : (v : ℕ) → mentions lines v (slice_index (layout_of graph evidence costs).lines k) ≡ ((nat_le 1 v && nat_le v (length costs)) && mentions graph.nodes v k)
    pub means : NodeMeans graph evidence costs ok dear k c (λ a. is_true lines (slice_index (layout_of graph evidence costs).lines k) a)

  Drawn-more : (lines more : List Node) (k c : ℕ) → Drawn lines k c → Drawn (lines ++ more) k c
  Drawn-more lines more k c d = record {
    inside = omega (arith, d.inside, length-append lines more);
    mentioned = λ v. value_of-front (mention_by v) lines more (own k) d.inside ∙ d.mentioned v;
    means = Means-same (λ a. value_of-front (truth_by a) lines more (own k) d.inside) d.means;
  }

  -- the lines of the nodes before one, after the literals
  pub record Upto (i : ℕ) (more : List Node) : Type 0 where
    pub stand : Stand (length costs) (literal_pairs (length costs) ++ more)
    pub drawn : (k c : ℕ) → k < i → least_at graph evidence costs k ≡ Some c → Drawn (literal_pairs (length costs) ++ more) k c

  -- ---- a filled line

  module _ (more : List Node) (k c : ℕ) (cost_is : least_at graph evidence costs k ≡ Some c) (drawn : Drawn (literal_pairs (length costs) ++ more) k c)
      (o : ℕ → Bool) (wider : (v : ℕ) → mentions graph.nodes v k ≡ true → o v ≡ true) where
    abbrev lines : List Node
    lines = literal_pairs parts ++ more

    abbrev rest : ℕ → Bool
    rest v = o v && not (M v k)

    abbrev filling_in : List ℕ
    filling_in = fillers evidence parts rest

    abbrev pub line_over : Node
    line_over = and_over (slice_index (layout_of graph evidence costs).lines k ∷ fillers evidence (length costs) (λ v. o v && not (mentions graph.nodes v k)))

    few : length filling_in ≤ parts
    few = omega (arith, length-map (filter rest (range_with_len 1 parts)) (λ p. literal_line p (filling (known_at evidence p))), length-filter-le rest (range_with_len 1 parts), length-range_with_len 1 parts)

    pub over-mention : (v : ℕ) → list_any (λ b. b) (map (mentions (literal_pairs (length costs) ++ more) v) line_over.kids) ≡ ((nat_le 1 v && nat_le v (length costs)) && o v)
    over-mention v = (λ i. drawn.mentioned v i || fillers-mention parts more evidence rest v i) ∙ grind (arith, nat_tests, wider v)

    pub over-follows : MayFollow (length costs) (literal_pairs (length costs) ++ more) line_over
    over-follows = grind (arith, nat_tests, and_from, lt-ltb, fillers-below, room, few, at_most_one-from, and_parts, fillers-mention, drawn.mentioned, and_right, not-true, fillers-once)

    pub over-means : Means graph evidence costs ok dear (λ a. is_true graph.nodes k a) o c (λ a. list_all (λ b. b) (map (λ q. is_true (literal_pairs (length costs) ++ more) q a) line_over.kids))
    over-means = filled graph evidence costs ok dear k c cost_is o wider (λ a. is_true lines (own k) a) (λ a. list_all (λ b. b) (map (λ q. is_true lines q a) filling_in)) drawn.means
        (record { sound = fillers-true parts more evidence rest; reached = fillers-say parts more evidence rest })

  -- ---- the lines of one more node

  module _ (i : ℕ) (more : List Node) (upto : Upto i more) where
    abbrev before : List Node
    before = literal_pairs parts ++ more

    -- lines that are added, with the node's own as the last
    record Adds (block : List Node) : Type 0 where
      stand : Stand (length costs) (literal_pairs (length costs) ++ (more ++ block))
      drawn : (c : ℕ) → least_at graph evidence costs i ≡ Some c → Drawn (literal_pairs (length costs) ++ (more ++ block)) i c

    -- one added line
    one-adds : (node : Node) → MayFollow parts before node → own i ≡ length before
        → ((v : ℕ) (c : ℕ) → least_at graph evidence costs i ≡ Some c → mention_by v node.what (map (mentions before v) node.kids) ≡ (part_of v && M v i))
        → ((c : ℕ) → least_at graph evidence costs i ≡ Some c → NodeMeans graph evidence costs ok dear i c (λ a. truth_by a node.what (map (λ q. is_true before q a) node.kids))) → Adds (node ∷ [])
    one-adds node follows at mentioned means =
        let here : (by : NodeKind → List Bool → Bool) → value_of by (before ++ node ∷ []) (own i) ≡ by node.what (map (value_of by before) node.kids) =
        λ by. ap (value_of by (before ++ node ∷ [])) at ∙ value_of-there by before node [] in
        let drawn : (c : ℕ) → least_at graph evidence costs i ≡ Some c → Drawn (before ++ node ∷ []) i c = λ c e. record {
          inside = omega (arith, at, length-append before (node ∷ []));
          mentioned = λ v. here (mention_by v) ∙ mentioned v c e;
          means = Means-same (λ a. here (truth_by a)) (means c e);
        } in
        record {
          stand = subst (Stand parts) (append_assoc (literal_pairs parts) more (node ∷ [])) (stand-behind parts before (node ∷ []) upto.stand (follows, tt));
          drawn = λ c e. subst (λ lines. Drawn lines i c) (append_assoc (literal_pairs parts) more (node ∷ [])) (drawn c e);
        }

    -- a node that is never true
    false-adds : least_at graph evidence costs i ≡ None → own i ≡ length before → Adds (false_node ∷ [])
    false-adds none at = one-adds false_node (record { below = refl; kind = refl; apart = λ v. refl; smooth = λ v. refl }) at
        (λ v c e. absurd (cc)) (λ c e. absurd (cc))

    -- a literal
    module _ (var : ℕ) (positive : Bool) (kids : List ℕ) (e : slice_get graph.nodes i ≡ Some (record { what = Literal positive var; kids = kids })) (cost : ℕ) (cost_is : least_at graph evidence costs i ≡ Some cost) (at : own i ≡ length before) where
      literal-adds : Adds (and_over (literal_children parts var positive) ∷ [])
      literal-adds = by_part (nat_le var parts) refl where
        by_part : (b : Bool) → nat_le var parts ≡ b → Adds (and_over (cond b (literal_line var positive ∷ []) []) ∷ [])
        by_part true p =
            let low = (literal graph.vars var positive kids (fits-get graph.vars graph.nodes i _ ok.nodes.fit e).kind).low in
            let high = leb-true var parts p in
            let part : part_of var ≡ true = and_from _ _ (le-leb 1 var low) p in
            let inside : literal_line var positive < length before = omega (arith, room parts more, literal_line-lt parts var positive low high) in
            one-adds (and_over (literal_line var positive ∷ []))
            (record { below = and_from _ _ (lt-ltb (literal_line var positive) (length before) inside) refl; kind = refl; apart = λ v. grind (arith, nat_tests); smooth = λ v. refl })
            at
            (λ v c q. or-false (mentions before v (literal_line var positive)) ∙ literal-value parts more (mention_by v) var positive low high ∙ grind (arith, nat_tests, part, mention-at graph evidence costs ok i _ e v))
            (λ c q. Means-same (λ a. and-true (is_true before (literal_line var positive) a) ∙ literal-value parts more (truth_by a) var positive low high) (part-means graph evidence costs ok dear i var positive kids e c q part))
        by_part false p =
            one-adds (and_over []) (record { below = refl; kind = refl; apart = λ v. refl; smooth = λ v. refl }) at
            (λ v c q. grind (arith, nat_tests, and_right (nat_le 1 var) _ p, mention-at graph evidence costs ok i _ e v))
            (λ c q. other-means graph evidence costs ok dear i var positive kids e c q (and_right (nat_le 1 var) _ p))

    -- an And node
    and-adds : (kids : List ℕ) → slice_get graph.nodes i ≡ Some (record { what = And; kids = kids }) → (cost : ℕ) → least_at graph evidence costs i ≡ Some cost → own i ≡ length before → Adds (and_over (map own kids) ∷ [])
    and-adds kids e cost cost_is at =
        let fit = fits-get graph.vars graph.nodes i _ ok.nodes.fit e in
        let drawn_child : (k : ℕ) → In k kids → (d : ℕ) × Drawn before k d = λ k m.
        let d = sum-child (least_at graph evidence costs) kids cost k (sym (costs-at graph evidence costs ok i _ e) ∙ cost_is) m in
        (d.0, upto.drawn k d.0 (all-below i kids k fit.below m) d.1) in
        let mention_children : (v : ℕ) → map (mentions before v) (map own kids) ≡ map (λ k. part_of v && M v k) kids = λ v.
        map-map (mentions before v) own kids ∙ map-in (λ k. mentions before v (own k)) (λ k. part_of v && M v k) kids (λ k m. (drawn_child k m).1.mentioned v) in
        one-adds (and_over (map own kids))
        (record {
          below = are_below-from (length before) (map own kids) (λ j d lt. let x = from_map own (get_or (map own kids) j d) kids (In-at (map own kids) j d lt) in subst (λ q. q < length before) (sym x.gives) (drawn_child x.item x.is_in).1.inside);
          kind = ap (λ n. nat_lt n CHILD_LIMIT) (length-map kids own) ∙ fit.kind;
          apart = λ v. ap at_most_one (mention_children v) ∙ at_most_one-less (λ k. part_of v && M v k) (M v) i kids fit.below (λ k h q. (and_parts (part_of v) (M v k) q).1) (apart-kids graph evidence costs ok i kids e v);
          smooth = λ v. refl;
        })
        at
        (λ v c q. ap (list_any (λ b. b)) (mention_children v) ∙ any-part (part_of v) (M v) kids ∙ ap (λ b. part_of v && b) (sym (mention-at graph evidence costs ok i _ e v)))
        (λ c q. Means-same (λ a. ap (list_all (λ b. b)) (map-map (λ p. is_true before p a) own kids))
        (and-means graph evidence costs ok dear (λ k a. is_true before (own k) a) i kids c e q (λ k d m r. (upto.drawn k d (all-below i kids k fit.below m) r).means)))

    -- an Or node, after a line for each of its cheapest children
    module _ (kids : List ℕ) (e : slice_get graph.nodes i ≡ Some (record { what = Or; kids = kids })) (cost : ℕ) (cost_is : least_at graph evidence costs i ≡ Some cost)
        (at : own i ≡ length before + length (cheapest_children least cost kids)) where
      abbrev best : List ℕ
      best = cheapest_children least cost kids

      fit : Fits graph.vars i (record { what = Or; kids = kids })
      fit = fits-get graph.vars graph.nodes i _ ok.nodes.fit e

      wider : (k : ℕ) → In k kids → (v : ℕ) → M v k ≡ true → M v i ≡ true
      wider k m = child-inside graph evidence costs ok dear i kids cost e cost_is k m

      drawn_child : (k : ℕ) → In k kids → least_at graph evidence costs k ≡ Some cost → Drawn before k cost
      drawn_child k m c = upto.drawn k cost (all-below i kids k fit.below m) c

      abbrev block : List Node
      block = map (child_line L i) best

      -- what the lines of the cheapest children need, each line has
      follows : (ks : List ℕ) → ((k : ℕ) → In k ks → In k best) → AllByRecursion (MayFollow parts before) (map (child_line L i) ks)
      follows [] are = tt
      follows (k ∷ ks) are =
          let m = cheapest-is least cost kids k (are k (inl refl)) in
          (over-follows more k cost m.1 (drawn_child k m.0 m.1) (λ v. M v i) (wider k m.0), follows ks (λ j n. are j (inr n)))

      block-follows : AllByRecursion (MayFollow parts before) block
      block-follows = follows best (λ k m. m)

      all_children : List Node
      all_children = before ++ block

      -- the values of the children's lines
      block-values : (by : NodeKind → List Bool → Bool) → map (value_of by all_children) (range_with_len (length before) (length best)) ≡ map (λ k. by And (map (value_of by before) (child_line L i k).kids)) best
      unfolding all_children
      block-values by =
          grind (arith, append-nil block, length-map best (child_line L i), values-behind by parts before [] block [] block-follows, map-map (λ (x : Node). by x.what (map (value_of by before) x.kids)) (child_line L i) best)

      block-mentions : (v : ℕ) → map (mentions all_children v) (range_with_len (length before) (length best)) ≡ map (λ k. part_of v && M v i) best
      block-mentions v = block-values (mention_by v) ∙ map-in (λ k. list_any (λ b. b) (map (mentions before v) (child_line L i k).kids)) (λ k. part_of v && M v i) best (λ k m.
          let is = cheapest-is least cost kids k m in
          over-mention more k cost is.1 (drawn_child k is.0 is.1) (λ u. M u i) (wider k is.0) v)

      abbrev or_node : Node
      or_node = or_behind (own i) (length best)

      or_children : or_node.kids ≡ range_with_len (length before) (length best)
      or_children = let start : own i - length best ≡ length before = omega (arith, at) in ap (λ n. range_with_len n (length best)) start

      length-all_children : length all_children ≡ length before + length best
      unfolding all_children
      length-all_children = omega (arith, length-append before block, length-map best (child_line L i))

      or-follows : MayFollow parts all_children or_node
      or-follows = record {
        below = ap (are_below (length all_children)) or_children ∙ range-below (length before) (length best) (length all_children) (omega (arith, length-all_children));
        kind = lt-ltb (length or_node.kids) CHILD_LIMIT (omega (arith, length-range_with_len (own i - length best) (length best), length-filter-le (λ child. costs_just cost (cost_at least child)) kids, ltb-true (length kids) CHILD_LIMIT fit.kind));
        apart = λ v. refl;
        smooth = λ v. ap (λ ks. all_same (map (mentions all_children v) ks)) or_children ∙ ap all_same (block-mentions v) ∙ same-const (part_of v && M v i) best;
      }

      here : (by : NodeKind → List Bool → Bool) → value_of by (all_children ++ or_node ∷ []) (own i) ≡ by Or (map (λ k. by And (map (value_of by before) (child_line L i k).kids)) best)
      here by = grind (arith, nat_tests, all_children, length-all_children, value_of-there, or_children, block-values)

      or-drawn : Drawn (all_children ++ or_node ∷ []) i cost
      or-drawn =
          let some : best ≡ [] → ⊥ = λ none.
          let r = cheapest-has (least_at graph evidence costs) kids cost (sym (costs-at graph evidence costs ok i _ e) ∙ cost_is) in
          subst (In r.0) none (cheapest-in least cost kids r.0 r.1.0 r.1.1) in
          record {
            inside = omega (arith, at, length-all_children, length-append all_children (or_node ∷ []));
            mentioned = λ v. here (mention_by v) ∙ ap (list_any (λ b. b)) (sym (block-values (mention_by v)) ∙ block-mentions v) ∙ any-const (part_of v && M v i) best some;
            means = Means-same (λ a. here (truth_by a))
                (or-means graph evidence costs ok dear i kids cost e cost_is (λ k a. list_all (λ b. b) (map (λ q. is_true before q a) (child_line L i k).kids))
                (λ k m c. over-means more k cost c (drawn_child k m c) (λ v. M v i) (wider k m)));
          }

      whole : all_children ++ or_node ∷ [] ≡ literal_pairs parts ++ (more ++ (block ++ or_node ∷ []))
      unfolding all_children
      whole = append_assoc before block (or_node ∷ []) ∙ append_assoc (literal_pairs parts) more (block ++ or_node ∷ [])

      or-adds : Adds (or_lines L i best)
      unfolding all_children
      or-adds = record {
        stand = subst (Stand parts) whole (stand-behind parts all_children (or_node ∷ []) (stand-behind parts before block upto.stand block-follows) (or-follows, tt));
        drawn = λ c q. subst (λ lines. Drawn lines i c) whole (subst (Drawn (all_children ++ or_node ∷ []) i) (same_Some cost c (sym cost_is ∙ q)) or-drawn);
      }

    -- the lines of any node
    by_kind : (what : NodeKind) (kids : List ℕ) → slice_get graph.nodes i ≡ Some (record { what = what; kids = kids }) → (cost : ℕ) → least_at graph evidence costs i ≡ Some cost
        → own i ≡ length before + lines_before least cost what kids → Adds (lines_by L i cost what kids)
    by_kind (Literal positive var) kids e cost cost_is at = literal-adds var positive kids e cost cost_is (omega (arith, at))
    by_kind And kids e cost cost_is at = and-adds kids e cost cost_is (omega (arith, at))
    by_kind Or kids e cost cost_is at = or-adds kids e cost cost_is at

    node-adds : (node : Node) → slice_get graph.nodes i ≡ Some node → (o : Option ℕ) → least_at graph evidence costs i ≡ o → own i ≡ length before + lines_to least node o → Adds (lines_at L i node o)
    node-adds node e None c at = false-adds c (omega (arith, at))
    node-adds node e (Some cost) c at = by_kind node.what node.kids e cost c at

    pub one_more : (node : Node) → slice_get graph.nodes i ≡ Some node → own i ≡ length before + lines_to least node (least_at graph evidence costs i) → Upto (i + 1) (more ++ node_lines L (i, node))
    one_more node e at =
        let added = node-adds node e (least_at graph evidence costs i) refl at in
        record {
          stand = added.stand;
          drawn = λ k c h q. ⊎_elim
              (λ (lt : k < i). subst (λ lines. Drawn lines k c) (append_assoc (literal_pairs parts) more (node_lines L (i, node))) (Drawn-more before (node_lines L (i, node)) k c (upto.drawn k c lt q)))
              (λ (le : i ≤ k). let same : i ≡ k = omega arith in subst (λ j. Drawn (literal_pairs parts ++ (more ++ node_lines L (i, node))) j c) same (added.drawn c (ap (least_at graph evidence costs) same ∙ q)))
              (cases_lt k i);
        }

  -- ---- all lines

  -- the number of lines of a node
  pub length-lines : (i : ℕ) (node : Node) (o : Option ℕ) → length (lines_at L i node o) ≡ lines_to least node o + 1
  length-lines i node o = grind (arith, nat_tests, length-append, length-map)

  go : (front rest : List Node) (done : List ℕ) (more : List Node) → graph.nodes ≡ front ++ rest → length done ≡ length front
      → L.lines ≡ done ++ own_lines least (length (literal_pairs parts ++ more)) (length front) rest
      → Upto (length front) more → Upto (length graph.nodes) (more ++ flat_map (node_lines L) (enumerate_from (length front) rest))
  go front [] done more all long stand_at upto = grind (arith, nat_tests, length-append, append-nil)
  go front (node ∷ later) done more all long stand_at upto =
      let i = length front in
      let before : List Node = literal_pairs parts ++ more in
      let at : ℕ = length before + lines_to least node (least_at graph evidence costs i) in
      let inside : i < length graph.nodes = omega (arith, ap length all, length-append front (node ∷ later)) in
      let there : slice_get graph.nodes i ≡ Some node = slice_get-get_or graph.nodes i true_node inside ∙ ap Some (ap (λ ns. get_or ns i true_node) all ∙ get_or_at front node later true_node i refl) in
      let own_is : own i ≡ at = ap (λ ls. get_or ls i 0) stand_at ∙ get_or_at done at (own_lines least (at + 1) (i + 1) later) 0 i long in
      let next = one_more i more upto node there own_is in
      let block : List Node = node_lines L (i, node) in
      let longer : length (front ++ node ∷ []) ≡ i + 1 = length-append front (node ∷ []) in
      let grown : length (literal_pairs parts ++ (more ++ block)) ≡ at + 1 = omega (arith, length-append (literal_pairs parts) (more ++ block), length-append more block, length-append (literal_pairs parts) more, length-lines i node (least_at graph evidence costs i)) in
      grind (arith, nat_tests, append_assoc, length-append, go (front ++ node ∷ []) later (done ++ at ∷ []) (more ++ block))

  abbrev pub body : List Node
  body = flat_map (node_lines (layout_of graph evidence costs)) (enumerate_from 0 graph.nodes)

  pub all-drawn : Upto (length graph.nodes) body
  all-drawn =
      let none : literal_pairs parts ≡ literal_pairs parts ++ [] = sym (append-nil (literal_pairs parts)) in
      let first : 2 * parts ≡ length (literal_pairs parts ++ []) = sym (ap length (append-nil (literal_pairs parts)) ∙ length-literal_pairs parts) in
      go [] graph.nodes [] [] refl refl (λ j. own_lines least (first j) 0 graph.nodes)
      (record { stand = subst (Stand parts) none (pairs-stand parts); drawn = λ k c h e. absurd (omega arith) })
