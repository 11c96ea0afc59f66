-- The projection of a graph is a decomposable graph over the parts, true for the models alone.
use Rattle.std.proofs.Common.{◌≡◌, ℕ, suc, ◌+◌, ◌-◌, ◌^◌, ◌<◌, ◌≤◌, Bool, true, false, ◌&&◌, List, [], ◌∷◌, ◌++◌, map, length, take, Option, Some, None, get_or, refl, sym, ap, ◌∙◌, subst, arith, inl, inr, append_assoc, length-append}
use Rattle.std.specs.Prelude.{nat_lt, slice_index}
use Rattle.std.specs.List.{list_any, range_with_len, AllByRecursion}
use Rattle.std.proofs.lemmas.Bool.{and_parts, and_from, ltb-true, lt-ltb, eq-eqb, cases_lt, false_from_ne_true}
use Rattle.std.proofs.lemmas.List.{length-map, length-take-le, get_or_append_left, get_or-append_right, get_or-take, get_or-map, get_or_at}
use Rattle.std.proofs.lemmas.List.FromFn.{length-map-range_with_len, get_or-map-range_with_len, length-range_with_len}
use Rattle.std.specs.Cmp.{both_ways}
use Rattle.std.specs.Cmp.Lexicographic.{pointwise}
use Rattle.std.proofs.Math.Bool.{and-true}
use Rattle.std.proofs.lemmas.Map.Views.{any-filter_same}
use Rattle.text_rules.specs.Tokens.{is_neat}
use Rattle.state_rules.specs.Bits.{bit_in, same_bit, lists_of_bits}
use Rattle.state_rules.specs.Assignments.{Assignment, assignment}
use Rattle.state_rules.specs.Cases.{agrees_at, agrees}
use Rattle.state_rules.specs.Ranking.{Test, passing}
use Rattle.state_rules.proofs.Bits.{same_bit-equal, same_bit-refl, pointwise-refl, pointwise-equal}
use Rattle.state_rules.proofs.Lists.{AllByRecursion-append}
use Rattle.state_rules.proofs.Cases.{agrees-at}
use Rattle.state_rules.proofs.Members.{any_from, any_in, bits_in, bits_length}
use Rattle.state_rules.specs.declared.nodes.TheConstants.{CHILD_LIMIT}
use Rattle.state_rules.specs.declared.nodes.NodeKind.{NodeKind}
use Rattle.state_rules.specs.declared.nodes.NodeKind.TheVariants.{Literal, And, Or}
use Rattle.state_rules.specs.Graphs.{Node, Graph, true_node, node_at, at_most_one, is_true, truth_by, mention_by, mentions, apart_at, Decomposable, holds, kind_fits, node_fits, nodes_fit, IsGraph}
use Rattle.state_rules.proofs.NodeValues.{are_below, value_of, value_of-at}
use Rattle.state_rules.proofs.NodesFit.{Fits, fits, fits-at, literal}
use Rattle.state_rules.proofs.Mentions.{mentioned-range}
use Rattle.state_rules.proofs.Children.{each_below, any_more, at_most_one-from, at_most_one-less, range-below}
use Rattle.nnf_text.specs.GraphTexts.{parsed}
use Rattle.nnf_text.proofs.ReadingBack.{IsList, graph_text-read, graph_text-is_neat}
use Rattle.nnf_text.specs.StateGraphs.{IsGraphOfStates}
use Rattle.conditioner.specs.Evidence.{known_of, known}
use Rattle.conditioner.specs.Models.{has_model, fits_evidence, models}
use Rattle.conditioner.proofs.FittingEvidence.{known-at, fits_evidence-at, fits_evidence-from, fits_evidence-front}
use Rattle.projector.specs.Projecting.{projected_kind, projected_node, held_literals, root_with, projection, projected_text}
use Rattle.projector.proofs.Literals.{wanted_of, literal-truth, literal-mentions, literal-fits}
use Rattle.projector.proofs.WantedBits.{Agrees, Meets, can_literal, all_can, any_can, can_by, can_laws}
use Rattle.node_costs.proofs.Nodes.{all_nodes}
use Rattle.projector.proofs.HeldLiterals.{length-held, held-alone, held-apart, held-fit, values-alone, held-agrees, held-once, held-known}

-- a state is among those that pass if it passes
pub passing-has : (h : List Bool) (test : Test) → list_any (pointwise same_bit h) (passing (length h) test) ≡ test h
passing-has h test =
    any-filter_same (pointwise same_bit h) test (test h) (λ k e. ap test (sym (pointwise-equal h k e))) (lists_of_bits (length h))
    ∙ ap (λ b. test h && b) (any_in (pointwise same_bit h) h (lists_of_bits (length h)) (bits_in h) (pointwise-refl h))
    ∙ and-true (test h)

-- ---- what is wanted of a variable

allowed : (k : Option Bool) (part bit b : Bool) → agrees_at k b ≡ true → (part ≡ true → b ≡ bit) → agrees_at (wanted_of k part bit) b ≡ true
allowed (Some c) part bit b e same = e
allowed None true bit b e same = subst (λ x. same_bit x b ≡ true) (same refl) (same_bit-refl b)
allowed None false bit b e same = refl

known_allowed : (k : Option Bool) (part bit b : Bool) → agrees_at (wanted_of k part bit) b ≡ true → agrees_at k b ≡ true
known_allowed (Some c) part bit b e = e
known_allowed None part bit b e = refl

-- a part's bit is the wanted one
part_bit : (k : Option Bool) (bit b : Bool) → agrees_at (wanted_of k true bit) b ≡ true → agrees_at k bit ≡ true → bit ≡ b
part_bit (Some c) bit b e f = sym (same_bit-equal c bit f) ∙ same_bit-equal c b e
part_bit None bit b e f = same_bit-equal bit b e

-- ---- a node, by its children

-- what the evidence says of a variable
abbrev known_of_var : List ℕ → ℕ → Option Bool
known_of_var evidence v = known_of (slice_index evidence (v - 1))

module _ (evidence : List ℕ) (parts : ℕ) where
  -- what is known of the variables, and the bits that an assignment gives the parts
  abbrev pub wanted : Assignment → ℕ → Option Bool
  wanted a v = wanted_of (known_of_var evidence v) (nat_lt (v - 1) parts) (a v)

  -- a projected node is true if the node can be
  kind-truth : (a : Assignment) (vars : ℕ) (kind : NodeKind) (kids : List ℕ) → kind_fits vars kind kids ≡ true → (c : ℕ → Bool)
      → truth_by a (projected_kind evidence parts kind) (map c kids) ≡ can_by (wanted a) kind (map c kids)
  kind-truth a vars (Literal positive var) kids fits c =
      let is = literal vars var positive kids fits in
      ap (λ ks. truth_by a (projected_kind evidence parts (Literal positive var)) (map c ks)) is.alone ∙ literal-truth parts var positive a (known_of_var evidence var) is.low
  kind-truth a vars And kids fits c = refl
  kind-truth a vars Or kids fits c = refl

  -- it mentions only variables that the node did, and no known one
  kind-mentions : (v vars own : ℕ) (f g : ℕ → Bool) (kind : NodeKind) (kids : List ℕ) → kind_fits vars kind kids ≡ true → are_below own kids ≡ true
      → ((k : ℕ) → k < own → f k ≡ true → (g k ≡ true) × (known_of_var evidence v ≡ None))
      → mention_by v (projected_kind evidence parts kind) (map f kids) ≡ true → (mention_by v kind (map g kids) ≡ true) × (known_of_var evidence v ≡ None)
  kind-mentions v vars own f g (Literal positive var) kids fits below more e =
      let is = literal vars var positive kids fits in
      let r = literal-mentions parts var positive v (known_of_var evidence var) (ap (λ ks. mention_by v (projected_kind evidence parts (Literal positive var)) (map f ks)) (sym is.alone) ∙ e) in
      (eq-eqb var v r.0, ap (known_of_var evidence) (sym r.0) ∙ r.1)
  kind-mentions v vars own f g And kids fits below more e = any_more (known_of_var evidence v ≡ None) f g own kids below more e
  kind-mentions v vars own f g Or kids fits below more e = any_more (known_of_var evidence v ≡ None) f g own kids below more e

  alone-apart : (f : ℕ → Bool) (kind : NodeKind) → apart_at f kind [] ≡ true
  alone-apart f (Literal positive var) = refl
  alone-apart f And = refl
  alone-apart f Or = refl

  kind-apart : (vars own : ℕ) (f g : ℕ → Bool) (kind : NodeKind) (kids : List ℕ) → kind_fits vars kind kids ≡ true → are_below own kids ≡ true → ((k : ℕ) → k < own → f k ≡ true → g k ≡ true)
      → apart_at g kind kids ≡ true → apart_at f (projected_kind evidence parts kind) kids ≡ true
  kind-apart vars own f g (Literal positive var) kids fits below less apart =
      let become : NodeKind = projected_kind evidence parts (Literal positive var) in
      ap (apart_at f become) (literal vars var positive kids fits).alone ∙ alone-apart f become
  kind-apart vars own f g And kids fits below less apart = at_most_one-less f g own kids below less apart
  kind-apart vars own f g Or kids fits below less apart = refl

  kind-fits : (vars : ℕ) (kind : NodeKind) (kids : List ℕ) → kind_fits vars kind kids ≡ true → kind_fits parts (projected_kind evidence parts kind) kids ≡ true
  kind-fits vars (Literal positive var) kids fits =
      let is = literal vars var positive kids fits in
      ap (kind_fits parts (projected_kind evidence parts (Literal positive var))) is.alone ∙ literal-fits parts var positive (known_of_var evidence var) is.low
  kind-fits vars And kids fits = fits
  kind-fits vars Or kids fits = fits

  -- ---- nodes, from one number on

  nodes-fit : (vars own : ℕ) (nodes : List Node) → nodes_fit vars own nodes ≡ true → nodes_fit parts own (map (projected_node evidence parts) nodes) ≡ true
  nodes-fit vars own [] fit = refl
  nodes-fit vars own (node ∷ nodes) fit =
      let both = and_parts (node_fits vars own node) (nodes_fit vars (own + 1) nodes) fit in
      let is = fits vars own node both.0 in
      and_from _ _ (and_from _ _ is.below (kind-fits vars node.what node.kids is.kind)) (nodes-fit vars (own + 1) nodes both.1)

  nodes-apart : (vars own end : ℕ) (f g : ℕ → Bool) → ((k : ℕ) → k < end → f k ≡ true → g k ≡ true) → (nodes : List Node) → own + length nodes ≤ end → nodes_fit vars own nodes ≡ true
      → AllByRecursion (λ (node : Node). apart_at g node.what node.kids ≡ true) nodes → AllByRecursion (λ (node : Node). apart_at f node.what node.kids ≡ true) (map (projected_node evidence parts) nodes)
  nodes-apart vars own end f g less [] few fit apart = tt
  nodes-apart vars own end f g less (node ∷ nodes) few fit apart =
      let both = and_parts (node_fits vars own node) (nodes_fit vars (own + 1) nodes) fit in
      let is = fits vars own node both.0 in (
        kind-apart vars own f g node.what node.kids is.kind is.below (λ k h. less k (omega arith)) apart.0,
        nodes-apart vars (own + 1) end f g less nodes (omega arith) both.1 apart.1,
      )

nodes_fit-append : (vars own : ℕ) (xs ys : List Node) → nodes_fit vars own xs ≡ true → nodes_fit vars (own + length xs) ys ≡ true → nodes_fit vars own (xs ++ ys) ≡ true
nodes_fit-append vars own [] ys first second = let e : own + 0 ≡ own = omega arith in subst (λ n. nodes_fit vars n ys ≡ true) e second
nodes_fit-append vars own (x ∷ xs) ys first second =
    let both = and_parts (node_fits vars own x) (nodes_fit vars (own + 1) xs) first in
    let e : own + suc (length xs) ≡ (own + 1) + length xs = omega arith in
    and_from _ _ both.0 (nodes_fit-append vars (own + 1) xs ys both.1 (subst (λ n. nodes_fit vars n ys ≡ true) e second))

-- ---- the projection

module _ (graph : Graph) (evidence : List ℕ) (parts : ℕ) (is : IsGraph graph) (as_long : length evidence ≡ graph.vars) (few : parts ≤ graph.vars) where
  abbrev known_parts : List (Option Bool)
  known_parts = known (take parts evidence)

  abbrev front : List Node
  front = map (projected_node evidence parts) graph.nodes

  abbrev held : List Node
  held = held_literals evidence parts

  abbrev root : Node
  root = root_with (length graph.nodes) (length held)

  abbrev all : List Node
  all = (projection graph evidence parts).nodes

  -- the root of the graph, and that of the projection
  abbrev old_root : ℕ
  old_root = length graph.nodes - 1

  abbrev new_root : ℕ
  new_root = length graph.nodes + length held

  length-known : length known_parts ≡ parts
  length-known = length-map (take parts evidence) known_of ∙ length-take-le parts evidence (omega (arith, as_long))

  pub few-held : length held ≤ parts
  few-held = omega (arith, length-held 1 known_parts, length-known)

  length-front : length front ≡ length graph.nodes
  length-front = length-map graph.nodes (projected_node evidence parts)

  pub length-all : length all ≡ new_root + 1
  length-all = omega (arith, length-append front (held ++ root ∷ []), length-append held (root ∷ []), length-front)

  part_known : (i : ℕ) → i < parts → get_or known_parts i None ≡ known_of (get_or evidence i 0)
  part_known i h = known-at (take parts evidence) i ∙ ap known_of (get_or-take parts evidence i 0 h)

  fits_at : (i : ℕ) → i < length graph.nodes → Fits graph.vars i (node_at graph.nodes i)
  fits_at i lt = fits-at graph.vars graph.nodes i is.nodes.fit lt

  all-at : (i : ℕ) → i < length graph.nodes → node_at all i ≡ projected_node evidence parts (node_at graph.nodes i)
  all-at i lt = get_or_append_left front (held ++ root ∷ []) true_node i (omega (arith, length-front)) ∙ get_or-map (projected_node evidence parts) graph.nodes i true_node true_node lt

  root-at : node_at all new_root ≡ root
  root-at = ap (λ nodes. node_at nodes new_root) (sym (append_assoc front held (root ∷ [])))
      ∙ get_or_at (front ++ held) root [] true_node new_root (omega (arith, length-append front held, length-front))

  root-below : are_below new_root root.kids ≡ true
  root-below = and_from _ _ (lt-ltb old_root new_root (omega (arith, is.some))) (range-below (length graph.nodes) (length held) new_root (omega arith))

  module _ (by : NodeKind → List Bool → Bool) where
    value-at : (i : ℕ) → i < length graph.nodes → value_of by all i ≡ by (projected_kind evidence parts (node_at graph.nodes i).what) (map (value_of by all) (node_at graph.nodes i).kids)
    value-at i lt =
        value_of-at by all i (omega (arith, length-all)) (subst (λ (n : Node). are_below i n.kids ≡ true) (sym (all-at i lt)) (fits_at i lt).below)
        ∙ ap (λ (n : Node). by n.what (map (value_of by all) n.kids)) (all-at i lt)

    held-values : map (value_of by all) (range_with_len (length graph.nodes) (length held)) ≡ map (λ node. by node.what []) held
    held-values = ap (λ n. map (value_of by all) (range_with_len n (length held))) (sym length-front) ∙ values-alone by front held (root ∷ []) (held-alone 1 known_parts)

    root-kids : map (value_of by all) root.kids ≡ value_of by all old_root ∷ map (λ node. by node.what []) held
    root-kids = ap (λ bs. value_of by all old_root ∷ bs) held-values

    root-value : value_of by all (length all - 1) ≡ by And (value_of by all old_root ∷ map (λ node. by node.what []) held)
    root-value =
        let last : length all - 1 ≡ new_root = omega (arith, length-all) in
        ap (value_of by all) last
        ∙ value_of-at by all new_root (omega (arith, length-all)) (subst (λ (n : Node). are_below new_root n.kids ≡ true) (sym root-at) root-below)
        ∙ ap (λ (n : Node). by n.what (map (value_of by all) n.kids)) root-at
        ∙ ap (by And) root-kids

  -- ---- variables that are mentioned

  module _ (v : ℕ) where
    -- a node mentions what it did, except what is known
    mentioned : (i : ℕ) → i < length graph.nodes → mentions all v i ≡ true → (mentions graph.nodes v i ≡ true) × (known_of_var evidence v ≡ None)
    mentioned i lt = each_below (λ k. mentions all v k ≡ true → (mentions graph.nodes v k ≡ true) × (known_of_var evidence v ≡ None)) (length graph.nodes) step (length graph.nodes) (omega arith) i lt where
      step : (i : ℕ) → i < length graph.nodes → ((k : ℕ) → k < i → mentions all v k ≡ true → (mentions graph.nodes v k ≡ true) × (known_of_var evidence v ≡ None))
          → mentions all v i ≡ true → (mentions graph.nodes v i ≡ true) × (known_of_var evidence v ≡ None)
      step i lt earlier e =
          let node : Node = node_at graph.nodes i in
          let r = kind-mentions evidence parts v graph.vars i (mentions all v) (mentions graph.nodes v) node.what node.kids (fits_at i lt).kind (fits_at i lt).below earlier (sym (value-at (mention_by v) i lt) ∙ e) in
          (value_of-at (mention_by v) graph.nodes i lt (fits_at i lt).below ∙ r.0, r.1)

    -- the held literals are of variables that no earlier node mentions
    root-silent : list_any (λ b. b) (map (λ node. mention_by v node.what []) held) ≡ true → mentions all v old_root ≡ false
    root-silent any =
        let h = held-known v 1 known_parts any in
        let lt : v - 1 < parts = omega (arith, h.from, h.to, length-known) in
        let is_known : known_of_var evidence v ≡ Some h.ok = sym (part_known (v - 1) lt) ∙ h.is in
        false_from_ne_true _ (λ e. let unknown : known_of_var evidence v ≡ None = (mentioned old_root (omega (arith, is.some)) e).1 in absurd (cc))

    root-apart : at_most_one (map (mentions all v) root.kids) ≡ true
    root-apart = ap at_most_one (root-kids (mention_by v)) ∙ at_most_one-from (mentions all v old_root) (map (λ node. mention_by v node.what []) held) root-silent (held-once v 1 known_parts)

  pub projected-apart : Decomposable all
  projected-apart v =
      AllByRecursion-append (λ node. apart_at (mentions all v) node.what node.kids ≡ true) front (held ++ root ∷ [])
      (nodes-apart evidence parts graph.vars 0 (length graph.nodes) (mentions all v) (mentions graph.nodes v) (λ k h e. (mentioned v k h e).0) graph.nodes (omega arith) is.nodes.fit (is.nodes.apart v))
      (AllByRecursion-append (λ node. apart_at (mentions all v) node.what node.kids ≡ true) held (root ∷ []) (held-apart (mentions all v) 1 known_parts) (root-apart v, tt))

  -- ---- what it says of a health state

  module _ (h : List Bool) (long : length h ≡ parts) where
    abbrev a : Assignment
    a = assignment h

    abbrev can_be : ℕ → Bool
    can_be i = is_true all i a

    root-meets : Meets (wanted evidence parts a) (λ b. is_true graph.nodes old_root b) (λ v. mentions graph.nodes v old_root) (can_be old_root)
    root-meets = all_nodes (can_literal (wanted evidence parts a)) (all_can (wanted evidence parts a)) (any_can (wanted evidence parts a)) (Meets (wanted evidence parts a)) (can_laws (wanted evidence parts a)) graph is can_be
        (λ i lt. value-at (truth_by a) i lt ∙ kind-truth evidence parts a graph.vars (node_at graph.nodes i).what (node_at graph.nodes i).kids (fits_at i lt).kind can_be) old_root (omega (arith, is.some))

    -- it is true if the root can be and the held literals agree
    holds-projected : holds (projection graph evidence parts) h ≡ (can_be old_root && agrees known_parts h)
    holds-projected = root-value (truth_by a)
        ∙ ap (λ b. can_be old_root && b) (held-agrees a 1 known_parts h (length-known ∙ sym long) (λ j. let e : (1 + j) - 1 ≡ j = omega arith in ap (bit_in h) e))

    -- bits that fit the evidence are what is wanted
    model-agrees : (others : List Bool) → length others ≡ graph.vars - parts → fits_evidence evidence (h ++ others) ≡ true → Agrees (wanted evidence parts a) (assignment (h ++ others))
    model-agrees others rest fit v =
        allowed (known_of_var evidence v) (nat_lt (v - 1) parts) (a v) (bit_in (h ++ others) (v - 1))
        (fits_evidence-at evidence (h ++ others) (omega (arith, as_long, length-append h others, long, rest)) fit (v - 1))
        (λ part. let lt = ltb-true (v - 1) parts part in get_or_append_left h others false (v - 1) (omega arith))

    abbrev is_model : List Bool → Bool
    is_model others = fits_evidence evidence (h ++ others) && holds graph (h ++ others)

    sound : has_model graph (fits_evidence evidence) parts h ≡ true → (can_be old_root && agrees known_parts h) ≡ true
    sound some_bits =
        let r = any_from is_model (lists_of_bits (graph.vars - parts)) some_bits in
        let both = and_parts (fits_evidence evidence (h ++ r.item)) (holds graph (h ++ r.item)) r.passes in
        and_from _ _ (root-meets.row.whole 0 (omega arith) (record { by = assignment (h ++ r.item); agrees = model-agrees r.item (bits_length (graph.vars - parts) r.item r.is_in) both.0; meets = both.1; cost_is = refl }))
        (subst (λ n. agrees (known (take n evidence)) h ≡ true) long (fits_evidence-front evidence h r.item both.0))

    module _ (b : Assignment) (ag : Agrees (wanted evidence parts a) b) (agree : agrees known_parts h ≡ true) where
      -- the bits of the other variables
      abbrev others : List Bool
      others = map b (range_with_len (parts + 1) (graph.vars - parts))

      length-others : length others ≡ graph.vars - parts
      length-others = length-map-range_with_len b (parts + 1) (graph.vars - parts)

      part-bit : (i : ℕ) → i < parts → bit_in h i ≡ b (i + 1)
      part-bit i lt =
          let place : (i + 1) - 1 ≡ i = omega arith in
          let is_part : nat_lt ((i + 1) - 1) parts ≡ true = ap (λ j. nat_lt j parts) place ∙ lt-ltb i parts lt in
          let wanted_is : wanted evidence parts a (i + 1) ≡ wanted_of (known_of (get_or evidence i 0)) true (bit_in h i) =
          (λ j. wanted_of (known_of (get_or evidence (place j) 0)) (is_part j) (bit_in h (place j))) in
          part_bit (known_of (get_or evidence i 0)) (bit_in h i) (b (i + 1))
          (subst (λ k. agrees_at k (b (i + 1)) ≡ true) wanted_is (ag (i + 1)))
          (subst (λ k. agrees_at k (bit_in h i) ≡ true) (part_known i lt) (agrees-at known_parts h (length-known ∙ sym long) agree i))

      bit-is : (i : ℕ) → i < graph.vars → bit_in (h ++ others) i ≡ b (i + 1)
      bit-is i lt = elim (cases_lt i parts) [
        | inl part ↦ get_or_append_left h others false i (omega arith) ∙ part-bit i part
        | inr past ↦ get_or-append_right h others parts i false long past ∙ get_or-map-range_with_len b (parts + 1) (graph.vars - parts) (i - parts) (i + 1) false (omega arith) (omega arith)
      ]

      var-is : (v : ℕ) → 1 ≤ v → v ≤ graph.vars → assignment (h ++ others) v ≡ b v
      var-is v low high = let e : (v - 1) + 1 ≡ v = omega arith in bit-is (v - 1) (omega arith) ∙ ap b e

      known-bit : (i : ℕ) → i < length (h ++ others) → agrees_at (known_of (get_or evidence i 0)) (bit_in (h ++ others) i) ≡ true
      known-bit i lt =
          let inside : i < graph.vars = omega (arith, length-append h others, length-others) in
          let place : (i + 1) - 1 ≡ i = omega arith in
          let is_known : agrees_at (known_of (get_or evidence ((i + 1) - 1) 0)) (b (i + 1)) ≡ true = known_allowed (known_of_var evidence (i + 1)) (nat_lt ((i + 1) - 1) parts) (a (i + 1)) (b (i + 1)) (ag (i + 1)) in
          subst (λ x. agrees_at (known_of (get_or evidence i 0)) x ≡ true) (sym (bit-is i inside))
          (subst (λ j. agrees_at (known_of (get_or evidence j 0)) (b (i + 1)) ≡ true) place is_known)

      same-truth : is_true graph.nodes old_root (assignment (h ++ others)) ≡ is_true graph.nodes old_root b
      same-truth = root-meets.local (assignment (h ++ others)) b (λ v m. let r = mentioned-range graph.vars graph.nodes v old_root is.nodes.fit m in var-is v r.low r.high)

      found : is_true graph.nodes old_root b ≡ true → has_model graph (fits_evidence evidence) parts h ≡ true
      found true_there =
          ap (λ n. list_any is_model (lists_of_bits n)) (sym length-others)
          ∙ any_in is_model others (lists_of_bits (length others)) (bits_in others) (and_from _ _ (fits_evidence-from evidence (h ++ others) known-bit) (same-truth ∙ true_there))

    reached : (can_be old_root && agrees known_parts h) ≡ true → has_model graph (fits_evidence evidence) parts h ≡ true
    reached both =
        let parts_of = and_parts (can_be old_root) (agrees known_parts h) both in
        let r = root-meets.row.sound 0 (omega arith) parts_of.0 in
        found r.by r.agrees parts_of.1 r.meets

    pub projected-holds : holds (projection graph evidence parts) h ≡ has_model graph (fits_evidence evidence) parts h
    projected-holds = holds-projected ∙ both_ways (can_be old_root && agrees known_parts h) (has_model graph (fits_evidence evidence) parts h) reached sound

    -- a state is one of the models if it is true for it
    pub projected-models : holds (projection graph evidence parts) h ≡ list_any (pointwise same_bit h) (models graph evidence parts)
    projected-models = projected-holds ∙ sym (passing-has h (has_model graph (fits_evidence evidence) parts))
        ∙ ap (λ n. list_any (pointwise same_bit h) (passing n (has_model graph (fits_evidence evidence) parts))) long

  -- ---- its text

  module _ (small : length graph.nodes + parts + 1 < 2 ^ 32) where
    projected-fit : nodes_fit parts 0 all ≡ true
    projected-fit =
        nodes_fit-append parts 0 front (held ++ root ∷ []) (nodes-fit evidence parts graph.vars 0 graph.nodes is.nodes.fit)
        (nodes_fit-append parts (0 + length front) held (root ∷ []) (held-fit parts (0 + length front) 1 known_parts (omega arith) (omega (arith, length-known)))
        (and_from _ _ (subst (λ n. node_fits parts n root ≡ true) place root-fits) refl)) where
          place : new_root ≡ (0 + length front) + length held
          place = omega (arith, length-front)

          root-fits : node_fits parts new_root root ≡ true
          root-fits = and_from _ _ root-below (lt-ltb (length root.kids) CHILD_LIMIT (omega (arith, length-range_with_len (length graph.nodes) (length held), few-held)))

    projected-is_list : IsList parts all
    projected-is_list = record {
      some = omega (arith, length-all);
      few = omega (arith, length-all, few-held);
      vars_fit = omega arith;
      fit = projected-fit;
    }

    -- the text has no blank line
    pub projected_text-is_neat : is_neat (projected_text graph evidence parts) ≡ true
    projected_text-is_neat = graph_text-is_neat parts all projected-is_list

    -- it reads as a decomposable graph over the parts, true for the models alone
    pub projected_text-means : IsGraphOfStates parts (models graph evidence parts) (parsed (projected_text graph evidence parts))
    projected_text-means = subst (IsGraphOfStates parts (models graph evidence parts)) (sym (graph_text-read parts all projected-is_list)) (refl, projected-apart, (λ h long. projected-models h long))
