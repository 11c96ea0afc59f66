-- The nodes at the places of the smaller graph: which nodes they replace, and which parents need them.
use Rattle.std.proofs.Common.{◌≡◌, ◌≢◌, ℕ, suc, ◌+◌, ◌<◌, ◌≤◌, true, List, [], ◌∷◌, ◌++◌, length, get_or, Some, refl, ap, sym, ◌∙◌, subst, arith, inl, inr, ⊎_elim, length-append}
use Rattle.std.specs.Prelude.{◌⊎◌, Contains}
use Rattle.std.proofs.lemmas.List.{get_or_append_left}
use Rattle.std.proofs.lemmas.Bool.{cases_eq}
use Rattle.state_rules.proofs.Members.{In}
use Rattle.state_rules.specs.declared.nodes.NodeKind.TheVariants.{Or}
use Rattle.state_rules.specs.Graphs.{Node, Graph, true_node, node_at, truth_by, mention_by, is_true, mentions}
use Rattle.state_rules.proofs.NodeValues.{value_of-before, node_at-last}
use Rattle.minimiser.specs.Costs.{part_cost, known_at, least_at}
use Rattle.fault_graph.specs.Small.{HasParent, Joins}
use Rattle.fault_graph.specs.inner.Rows.{keeps}
use Rattle.fault_graph.proofs.LeastNodes.{StandsFor, StandsFor-same}

node_at-before : (nodes : List Node) (node : Node) (p : ℕ) → p < length nodes → node_at (nodes ++ node ∷ []) p ≡ node_at nodes p
node_at-before nodes node p h = get_or_append_left nodes (node ∷ []) true_node p h

In-Contains : (xs : List ℕ) (x : ℕ) → In x xs → Contains xs x
In-Contains [] x m = absurd m
In-Contains (y ∷ xs) x (inl e) = (0, omega arith, sym e)
In-Contains (y ∷ xs) x (inr m) = let more = In-Contains xs x m in (suc more.0, omega (arith, more.1), more.2)

-- ---- the replacement of a node

module _ (graph : Graph) (evidence costs : List ℕ) where
  -- the replacement of a node at a place, with no other variables than the node
  pub record IsPlace (nodes : List Node) (k c p : ℕ) : Type 0 where
    pub there : p < length nodes
    pub stands : StandsFor (known_at evidence) (part_cost costs) (length costs) (λ a. is_true graph.nodes k a) (λ v. mentions graph.nodes v k) c (λ a. is_true nodes p a)
    pub inside : (v : ℕ) → mentions nodes v p ≡ true → mentions graph.nodes v k ≡ true

  pub place-more : (nodes : List Node) (node : Node) (k c p : ℕ) → IsPlace nodes k c p → IsPlace (nodes ++ node ∷ []) k c p
  place-more nodes node k c p is = record {
    there = omega (arith, is.there, length-append nodes (node ∷ []));
    stands = StandsFor-same (known_at evidence) (part_cost costs) (length costs) (λ a. refl) (λ v. refl) refl (λ a. value_of-before (truth_by a) nodes node p is.there) is.stands;
    inside = λ v e. is.inside v (sym (value_of-before (mention_by v) nodes node p is.there) ∙ e);
  }

  -- the node of the graph that is at a place, and costs something
  pub record IsFrom (nodes : List Node) (c p : ℕ) : Type 0 where
    pub node : ℕ
    pub dear : 0 < c
    pub is : least_at graph evidence costs node ≡ Some c
    pub place : IsPlace nodes node c p

  pub from-more : (nodes : List Node) (node : Node) (c p : ℕ) → IsFrom nodes c p → IsFrom (nodes ++ node ∷ []) c p
  from-more nodes node c p is = record { node = is.node; dear = is.dear; is = is.is; place = place-more nodes node is.node c p is.place }

  -- each place is that of a node; an Or node and its children are at places of nodes of one cost
  pub record AreFrom (nodes : List Node) : Type 0 where
    pub each : (p : ℕ) → p < length nodes → (c : ℕ) × IsFrom nodes c p
    pub ors : (p q : ℕ) → p < length nodes → (node_at nodes p).what ≡ Or → In q (node_at nodes p).kids → (c : ℕ) × IsFrom nodes c p × IsFrom nodes c q

  pub from-push : (nodes : List Node) (node : Node) (c : ℕ) → AreFrom nodes → IsFrom (nodes ++ node ∷ []) c (length nodes) → (node.what ≡ Or → (q : ℕ) → In q node.kids → IsFrom nodes c q)
      → AreFrom (nodes ++ node ∷ [])
  from-push nodes node c are here kids = record {
    each = λ p h. ⊎_elim
        (λ (e : p ≡ length nodes). (c, subst (IsFrom (nodes ++ node ∷ []) c) (sym e) here))
        (λ (ne : p ≢ length nodes). let x = are.each p (omega (arith, ne, h, length-append nodes (node ∷ []))) in (x.0, from-more nodes node x.0 p x.1))
        (cases_eq p (length nodes));
    ors = λ p q h o m. ⊎_elim
        (λ (e : p ≡ length nodes).
        let at : node_at (nodes ++ node ∷ []) p ≡ node = ap (node_at (nodes ++ node ∷ [])) e ∙ node_at-last nodes node in
        (c, subst (IsFrom (nodes ++ node ∷ []) c) (sym e) here, from-more nodes node c q (kids (sym (ap (λ (x : Node). x.what) at) ∙ o) q (subst (λ (x : Node). In q x.kids) at m))))
        (λ (ne : p ≢ length nodes).
        let lt : p < length nodes = omega (arith, ne, h, length-append nodes (node ∷ [])) in
        let at : node_at (nodes ++ node ∷ []) p ≡ node_at nodes p = node_at-before nodes node p lt in
        let x = are.ors p q lt (sym (ap (λ (x : Node). x.what) at) ∙ o) (subst (λ (x : Node). In q x.kids) at m) in
        (x.0, from-more nodes node x.0 p x.1, from-more nodes node x.0 q x.2))
        (cases_eq p (length nodes));
  }

-- each And node and each Or node has two or more children
abbrev pub AllJoin : List Node → Type 0
AllJoin nodes = (p : ℕ) → p < length nodes → Joins (node_at nodes p).what (length (node_at nodes p).kids)

pub joins-before : (nodes : List Node) (node : Node) → AllJoin nodes → (p : ℕ) → p < length nodes → Joins (node_at (nodes ++ node ∷ []) p).what (length (node_at (nodes ++ node ∷ []) p).kids)
joins-before nodes node all p h = subst (λ (x : Node). Joins x.what (length x.kids)) (sym (node_at-before nodes node p h)) (all p h)

pub joins-push : (nodes : List Node) (node : Node) → AllJoin nodes → Joins node.what (length node.kids) → AllJoin (nodes ++ node ∷ [])
joins-push nodes node all here p h = ⊎_elim
    (λ (e : p ≡ length nodes). subst (λ (x : Node). Joins x.what (length x.kids)) (sym (ap (node_at (nodes ++ node ∷ [])) e ∙ node_at-last nodes node)) here)
    (λ (ne : p ≢ length nodes). joins-before nodes node all p (omega (arith, ne, h, length-append nodes (node ∷ []))))
    (cases_eq p (length nodes))

-- ---- what is needed

pub parent-more : (nodes : List Node) (node : Node) (p : ℕ) → HasParent nodes p → HasParent (nodes ++ node ∷ []) p
parent-more nodes node p is = grind (arith, length-append, node_at-before)

pub parent-last : (nodes : List Node) (node : Node) (p : ℕ) → In p node.kids → HasParent (nodes ++ node ∷ []) p
parent-last nodes node p m = record {
  parent = length nodes;
  within = omega (arith, length-append nodes (node ∷ []));
  child = subst (λ (x : Node). Contains x.kids p) (sym (node_at-last nodes node)) (In-Contains node.kids p m);
}

module _ (graph : Graph) (values marks : List ℕ) where
  -- at a place is a child that stays, of a marked node from `at` on
  pub record Waits (places : List ℕ) (at p : ℕ) : Type 0 where
    pub parent : ℕ
    pub from : at ≤ parent
    pub within : parent < length graph.nodes
    pub marked : get_or marks parent 0 ≡ 1
    pub child : ℕ
    pub met : child < at
    pub is_child : In child (node_at graph.nodes parent).kids
    pub stays : keeps values (get_or values parent 0) child ≡ true
    pub there : get_or places child 0 ≡ p

  -- a place is that of a child already, or of one whose parent is to come
  abbrev pub IsNeeded : List ℕ → List Node → ℕ → ℕ → Type 0
  IsNeeded places nodes at p = HasParent nodes p ⊎ Waits places at p

  -- a place that waits for another parent than the next goes on
  pub waits-on : (places new : List ℕ) (at p : ℕ) (w : Waits places at p) → w.parent ≢ at → get_or new w.child 0 ≡ p → Waits new (at + 1) p
  waits-on places new at p w ne there = record {
    parent = w.parent;
    from = omega (arith, w.from);
    within = w.within;
    marked = w.marked;
    child = w.child;
    met = omega (arith, w.met);
    is_child = w.is_child;
    stays = w.stays;
    there = there;
  }
