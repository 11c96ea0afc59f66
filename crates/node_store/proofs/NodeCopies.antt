-- The copies of nodes, one after the other.
use Rattle.std.proofs.Common.{◌≡◌, ℕ, zero, suc, ◌+◌, ◌-◌, ◌<◌, ◌≤◌, Bool, true, false, ◌&&◌, List, [], ◌∷◌, ◌++◌, map, length, take, get_or, Some, All, refl, ap, sym, ◌∙◌, subst, arith, inl, inr, length-append}
use Rattle.std.specs.Prelude.{slice_get, slice_index, Contains, nat_lt, ◌⊎◌}
use Rattle.std.specs.List.{list_all}
use Rattle.std.proofs.lemmas.Bool.{and_from, lt-ltb, cases_lt}
use Rattle.std.proofs.lemmas.List.{get_or_append_left, get_or_push, get_or-map, take_more}
use Rattle.std.proofs.lemmas.Option.{slice_get_within, get_or_from_slice_get, slice_get-get_or}
use Rattle.std.proofs.lemmas.List.Sums.{sum_by-append, sum_by-take-le}
use Rattle.std.proofs.Math.ListN.{length-map}
use Rattle.state_rules.specs.Bits.{bit_in}
use Rattle.state_rules.proofs.Lists.{slice_get-before, slice_get-last}
use Rattle.state_rules.specs.declared.nodes.NodeKind.{NodeKind}
use Rattle.state_rules.specs.declared.nodes.NodeKind.TheVariants.{Literal, And, Or}
use Rattle.state_rules.specs.Graphs.{Node, truth_by, mention_by, is_true, mentions, at_most_one, apart_at, kind_fits, node_fits, AreNodes, IsGraph, edges}
use Rattle.state_rules.proofs.NodeValues.{below-each, value_of-get, value_of-last, value_of-before}
use Rattle.state_rules.proofs.NodesFit.{fits-get, apart-get, AreNodes-push}
use Rattle.node_store.specs.Stores.{Stored, EachOnce, IsStore, IsUsed, is_bare, HasNoBareChild, IsFrozen}
use Rattle.node_store.specs.inner.Freezing.{AreBefore, IsClosed, IsChildOfMarked, IsBelow, IsCopy, IsCopied}
use Rattle.node_store.proofs.NodesBelow.{the_at}

-- children come before their parents
pub before : (vars : ℕ) (nodes : List Node) → AreNodes vars nodes → AreBefore nodes
before vars nodes are i node there = below-each i node.kids (fits-get vars nodes i node are.fit there).below

pub take-more : (nodes : List Node) (i : ℕ) (node : Node) → slice_get nodes i ≡ Some node → take (i + 1) nodes ≡ take i nodes ++ node ∷ []
take-more nodes i node e = take_more nodes i node (slice_get_within nodes i node e) ∙ ap (λ n. take i nodes ++ n ∷ []) (get_or_from_slice_get nodes i node node e)

pub edges-push : (nodes : List Node) (node : Node) → edges (nodes ++ node ∷ []) ≡ edges nodes + length node.kids
edges-push nodes node = grind (arith, sum_by-append)

below_or_last : (k n : ℕ) → k < n + 1 → (k < n) ⊎ (k ≡ n)
below_or_last k n h = grind arith

copy-more : (nodes copies : List Node) (node : Node) (k number : ℕ) → IsCopy nodes k copies number → IsCopy nodes k (copies ++ node ∷ []) number
copy-more nodes copies node k number is = record {
  within = omega (arith, is.within, length-append copies (node ∷ []));
  truth = λ a. value_of-before (truth_by a) copies node number is.within ∙ is.truth a;
  variables = λ v. value_of-before (mention_by v) copies node number is.within ∙ is.variables v;
}

-- children that come before a place have the same numbers
map_same : (at : ℕ) (ks : List ℕ) (f g : ℕ → ℕ) → All (λ k. k < at) ks → ((k : ℕ) → k < at → f k ≡ g k) → map f ks ≡ map g ks
map_same at [] f g lt same = refl
map_same at (k ∷ ks) f g lt same = λ j. same k (lt 0 0 (omega arith)) j ∷ map_same at ks f g (λ i d h. lt (suc i) d (omega arith)) same j

module _ (vars : ℕ) (nodes : List Node) (marks : List Bool) (copies : List Node) (numbers : List ℕ) (at : ℕ) (is : IsCopied vars nodes marks copies numbers at) where
  pub left_out : AreNodes vars nodes → bit_in marks at ≡ false → (node : Node) → slice_get nodes at ≡ Some node → IsCopied vars nodes marks copies (numbers ++ 0 ∷ []) (at + 1)
  left_out nodes_are unmarked node e = record {
    long = omega (arith, length-append numbers (0 ∷ []), is.long);
    are = is.are;
    few = omega (arith, is.few);
    few_edges = omega (arith, is.few_edges, ap edges (take-more nodes at node e), edges-push (take at nodes) node);
    same = λ k h m. rw (kept k (before_at k h m)) (is.same k (before_at k h m) m);
    copy = λ k n h m there.
        let lt = before_at k h m in
        ap (slice_get copies) (kept k lt) ∙ is.copy k n lt m there
        ∙ (λ j. Some (record { what = n.what; kids = map_same k n.kids (slice_index numbers) (slice_index (numbers ++ 0 ∷ [])) (before vars nodes nodes_are k n there) (λ x lt_x. sym (kept x (omega (arith, lt, lt_x)))) j }));
    origin = λ n h. let o = is.origin n h in (o.0, omega (arith, o.1), o.2, kept o.0 o.1 ∙ o.3);
    rising = λ k l lt h mk ml. let small = before_at l h ml in omega (arith, kept k (omega (arith, lt, small)), kept l small, is.rising k l lt small mk ml);
    last = λ k h m. absurd (omega (arith, before_at k (omega arith) m));
  } where
    kept : (k : ℕ) → k < at → slice_index (numbers ++ 0 ∷ []) k ≡ slice_index numbers k
    kept k h = get_or_append_left numbers (0 ∷ []) 0 k (omega (arith, is.long))

    before_at : (k : ℕ) → k < at + 1 → bit_in marks k ≡ true → k < at
    before_at k h m = grind arith

  module _ (node : Node) (kids : List ℕ) (are : AreNodes vars nodes) (closed : IsClosed nodes marks) (there : slice_get nodes at ≡ Some node) (marked : bit_in marks at ≡ true) (renumbered : kids ≡ map (slice_index numbers) node.kids) where
    children_same : (ks : List ℕ) (f g : ℕ → Bool) → All (λ k. k < at) ks → All (λ k. bit_in marks k ≡ true) ks → ((k : ℕ) → k < at → bit_in marks k ≡ true → f (slice_index numbers k) ≡ g k) → map f (map (slice_index numbers) ks) ≡ map g ks
    children_same [] f g lt m same = refl
    children_same (k ∷ ks) f g lt m same = λ j. same k (lt 0 0 (omega arith)) (m 0 0 (omega arith)) j ∷ children_same ks f g (λ i d h. lt (suc i) d (omega arith)) (λ i d h. m (suc i) d (omega arith)) same j

    children_within : (ks : List ℕ) → All (λ k. k < at) ks → All (λ k. bit_in marks k ≡ true) ks → list_all (λ child. nat_lt child (length copies)) (map (slice_index numbers) ks) ≡ true
    children_within [] lt m = refl
    children_within (k ∷ ks) lt m = λ j. lt-ltb (slice_index numbers k) (length copies) (is.same k (lt 0 0 (omega arith)) (m 0 0 (omega arith))).within j && children_within ks (λ i d h. lt (suc i) d (omega arith)) (λ i d h. m (suc i) d (omega arith)) j

    kind_same : (what : NodeKind) (ks : List ℕ) → kind_fits vars what ks ≡ true → kind_fits vars what (map (slice_index numbers) ks) ≡ true
    kind_same what ks e = grind (arith, length-map)

    lt_at : All (λ k. k < at) node.kids
    lt_at = before vars nodes are at node there

    marked_children : All (λ k. bit_in marks k ≡ true) node.kids
    marked_children = closed at node (omega arith) marked there

    fits : node_fits vars (length copies) (record { what = node.what; kids = kids }) ≡ true
    fits = subst (λ ks. node_fits vars (length copies) (record { what = node.what; kids = ks }) ≡ true) (sym renumbered)
        (and_from _ _ (children_within node.kids lt_at marked_children) (kind_same node.what node.kids (fits-get vars nodes at node are.fit there).kind))

    apart : (v : ℕ) → apart_at (mentions copies v) node.what kids ≡ true
    apart v =
        let maps : map (mentions nodes v) node.kids ≡ map (mentions copies v) kids = sym (ap (map (mentions copies v)) renumbered ∙ children_same node.kids (mentions copies v) (mentions nodes v) lt_at marked_children (λ k h m. (is.same k h m).variables v)) in
        by node.what maps (apart-get (mentions nodes v) nodes at node (are.apart v) there) where
          by : (what : NodeKind) → map (mentions nodes v) node.kids ≡ map (mentions copies v) kids → apart_at (mentions nodes v) what node.kids ≡ true → apart_at (mentions copies v) what kids ≡ true
          by (Literal positive var) e h = refl
          by And e h = subst (λ bs. at_most_one bs ≡ true) e h
          by Or e h = refl

    new_copy : IsCopy nodes at (copies ++ record { what = node.what; kids = kids } ∷ []) (length copies)
    new_copy = record {
      within = omega (arith, length-append copies (record { what = node.what; kids = kids } ∷ []));
      truth = λ a. value_of-last (truth_by a) copies (record { what = node.what; kids = kids })
          ∙ ap (truth_by a node.what) (ap (map (λ k. is_true copies k a)) renumbered ∙ children_same node.kids (λ k. is_true copies k a) (λ k. is_true nodes k a) lt_at marked_children (λ k h m. (is.same k h m).truth a))
          ∙ sym (value_of-get (truth_by a) nodes at node there (fits-get vars nodes at node are.fit there).below);
      variables = λ v. value_of-last (mention_by v) copies (record { what = node.what; kids = kids })
          ∙ ap (mention_by v node.what) (ap (map (mentions copies v)) renumbered ∙ children_same node.kids (mentions copies v) (mentions nodes v) lt_at marked_children (λ k h m. (is.same k h m).variables v))
          ∙ sym (value_of-get (mention_by v) nodes at node there (fits-get vars nodes at node are.fit there).below);
    }

    pub taken : IsCopied vars nodes marks (copies ++ record { what = node.what; kids = kids } ∷ []) (numbers ++ length copies ∷ []) (at + 1)
    taken = record {
      long = omega (arith, length-append numbers (length copies ∷ []), is.long);
      are = AreNodes-push vars copies (record { what = node.what; kids = kids }) is.are fits apart;
      few = omega (arith, is.few, length-append copies (record { what = node.what; kids = kids } ∷ []));
      few_edges = omega (arith, is.few_edges, ap edges (take-more nodes at node there), edges-push (take at nodes) node, edges-push copies (record { what = node.what; kids = kids }), ap length renumbered, length-map node.kids (slice_index numbers));
      same = λ k h m. by k m (below_or_last k at h);
      copy = λ k n h m e. copied k n m e (below_or_last k at h);
      origin = λ n h. origin_by n (below_or_last n (length copies) (omega (arith, h, length-append copies (record { what = node.what; kids = kids } ∷ []))));
      rising = λ k l lt h mk ml. rising_by k l lt mk ml (below_or_last l at h);
      last = λ k h m. omega (arith, get_or_push numbers (length copies) 0 k (omega (arith, is.long)), length-append copies (record { what = node.what; kids = kids } ∷ []));
    } where
      new_node : Node
      new_node = record { what = node.what; kids = kids }

      kept : (k : ℕ) → k < at → slice_index (numbers ++ length copies ∷ []) k ≡ slice_index numbers k
      kept k h = get_or_append_left numbers (length copies ∷ []) 0 k (omega (arith, is.long))

      added : (k : ℕ) → k ≡ at → slice_index (numbers ++ length copies ∷ []) k ≡ length copies
      added k e = get_or_push numbers (length copies) 0 k (omega (arith, e, is.long))

      kept_children : (k : ℕ) (n : Node) → k < at + 1 → slice_get nodes k ≡ Some n → map (slice_index numbers) n.kids ≡ map (slice_index (numbers ++ length copies ∷ [])) n.kids
      kept_children k n h e = map_same k n.kids (slice_index numbers) (slice_index (numbers ++ length copies ∷ [])) (before vars nodes are k n e) (λ x lt. sym (kept x (omega (arith, lt, h))))

      copied : (k : ℕ) (n : Node) → bit_in marks k ≡ true → slice_get nodes k ≡ Some n → (k < at) ⊎ (k ≡ at)
          → slice_get (copies ++ new_node ∷ []) (slice_index (numbers ++ length copies ∷ []) k) ≡ Some (record { what = n.what; kids = map (slice_index (numbers ++ length copies ∷ [])) n.kids })
      copied k n m e (inl lt) =
          rw (kept k lt, ← kept_children k n (omega (arith, lt)) e) (slice_get-before copies (new_node ∷ []) (slice_index numbers k) _ (is.copy k n lt m e))
      copied k n m e (inr same) = grind (arith, added k same, slice_get-last copies new_node, kept_children k n (omega (arith, same)) e, there)

      origin_by : (n : ℕ) → (n < length copies) ⊎ (n ≡ length copies) → (k : ℕ) × (k < at + 1) × (bit_in marks k ≡ true) × (slice_index (numbers ++ length copies ∷ []) k ≡ n)
      origin_by n (inl lt) = let o = is.origin n lt in (o.0, omega (arith, o.1), o.2, kept o.0 o.1 ∙ o.3)
      origin_by n (inr same) = (at, omega arith, marked, added at refl ∙ sym same)

      rising_by : (k l : ℕ) → k < l → bit_in marks k ≡ true → bit_in marks l ≡ true → (l < at) ⊎ (l ≡ at) → slice_index (numbers ++ length copies ∷ []) k < slice_index (numbers ++ length copies ∷ []) l
      rising_by k l lt mk ml (inl small) = omega (arith, kept k (omega (arith, lt, small)), kept l small, is.rising k l lt small mk ml)
      rising_by k l lt mk ml (inr same) = let small : k < at = omega (arith, lt, same) in omega (arith, kept k small, added l same, (is.same k small mk).within)

      by : (k : ℕ) → bit_in marks k ≡ true → (k < at) ⊎ (k ≡ at) → IsCopy nodes k (copies ++ record { what = node.what; kids = kids } ∷ []) (slice_index (numbers ++ length copies ∷ []) k)
      by k m (inl h) = subst (IsCopy nodes k (copies ++ record { what = node.what; kids = kids } ∷ [])) (sym (get_or_append_left numbers (length copies ∷ []) 0 k (omega (arith, is.long)))) (copy-more nodes copies (record { what = node.what; kids = kids }) k (slice_index numbers k) (is.same k h m))
      by k m (inr e) = subst (IsCopy nodes k (copies ++ record { what = node.what; kids = kids } ∷ [])) (sym (get_or_push numbers (length copies) 0 k (omega (arith, is.long)))) (subst (λ k. IsCopy nodes k (copies ++ record { what = node.what; kids = kids } ∷ []) (length copies)) (sym e) new_copy)

-- ---- each node is used, and none is there twice

within_bits : (bs : List Bool) (i : ℕ) → bit_in bs i ≡ true → i < length bs
within_bits [] i m = absurd (let never : ⊥ = cc in never)
within_bits (b ∷ bs) zero m = omega arith
within_bits (b ∷ bs) (suc i) m = omega (arith, within_bits bs i m)

mapped : (f : ℕ → ℕ) (ks : List ℕ) (k : ℕ) → Contains ks k → Contains (map f ks) (f k)
mapped f ks k (i, h, e) = (i, omega (arith, h, length-map ks f), get_or-map f ks i k (f k) h ∙ ap f e)

unmapped : (f : ℕ → ℕ) (ks : List ℕ) (x : ℕ) → Contains (map f ks) x → (k : ℕ) × Contains ks k × (f k ≡ x)
unmapped f ks x (j, h, e) =
    let inside : j < length ks = omega (arith, h, length-map ks f) in
    let k = get_or ks j 0 in
    (k, (j, inside, get_or_from_slice_get ks j k k (slice_get-get_or ks j 0 inside)), sym (get_or-map f ks j 0 x inside) ∙ e)

-- a function that keeps such numbers apart keeps lists of them apart
map_apart : (P : ℕ → Type 0) (f : ℕ → ℕ) → ((a b : ℕ) → P a → P b → f a ≡ f b → a ≡ b) → (xs ys : List ℕ) → All P xs → All P ys → map f xs ≡ map f ys → xs ≡ ys
map_apart P f apart [] [] p q e = refl
map_apart P f apart [] (y ∷ ys) p q e = absurd (let never : ⊥ = cc in never)
map_apart P f apart (x ∷ xs) [] p q e = absurd (let never : ⊥ = cc in never)
map_apart P f apart (x ∷ xs) (y ∷ ys) p q e =
    let first : f x ≡ f y = cc in
    let rest : map f xs ≡ map f ys = cc in
    λ j. apart x y (p 0 0 (omega arith)) (q 0 0 (omega arith)) first j ∷ map_apart P f apart xs ys (λ i d h. p (suc i) d (omega arith)) (λ i d h. q (suc i) d (omega arith)) rest j

module _ (store : Stored) (root : ℕ) (marks : List Bool) (copies : List Node) (numbers : List ℕ) (is : IsStore store) (within : root < length store.nodes) (below : IsBelow store.nodes root marks)
    (copied : IsCopied store.vars store.nodes marks copies numbers (length marks)) where
  all_used : (number : ℕ) → number + 1 < length copies → IsUsed copies number
  all_used number h =
      let from = copied.origin number (omega (arith, h)) in
      by from.0 from.3 (below.only from.0 from.2) where
        by : (k : ℕ) → slice_index numbers k ≡ number → (k ≡ root) ⊎ IsChildOfMarked store.nodes marks k → IsUsed copies number
        by k e (inl at_root) = absurd (omega (arith, h, e, ap (slice_index numbers) at_root, copied.last root (sym below.long) below.has))
        by k e (inr (j, node, marked, there, has)) = (
          slice_index numbers j,
          record { what = node.what; kids = map (slice_index numbers) node.kids },
          copied.copy j node (within_bits marks j marked) marked there,
          subst (Contains (map (slice_index numbers) node.kids)) e (mapped (slice_index numbers) node.kids k has),
        )

  -- marked nodes have different numbers
  abbrev IsTaken : ℕ → Type 0
  IsTaken k = (k < length marks) × (bit_in marks k ≡ true)

  tell_apart : (a b : ℕ) → IsTaken a → IsTaken b → slice_index numbers a ≡ slice_index numbers b → a ≡ b
  tell_apart a b p q e = grind arith

  children_taken : (k : ℕ) (node : Node) → IsTaken k → slice_get store.nodes k ≡ Some node → All IsTaken node.kids
  children_taken k node taken there = λ i d h.
      let marked = below.closed k node (omega arith) taken.1 there i d h in (within_bits marks (get_or node.kids i d) marked, marked)

  node_of : (k : ℕ) → IsTaken k → (node : Node) × (slice_get store.nodes k ≡ Some node)
  node_of k taken = the_at store.nodes k (omega (arith, taken.0, below.long, within))

  abbrev renumbered : Node → Node
  renumbered node = record { what = node.what; kids = map (slice_index numbers) node.kids }

  -- what a node is a copy of
  source : (number : ℕ) (node : Node) → slice_get copies number ≡ Some node
      → (k : ℕ) × (old : Node) × IsTaken k × (slice_index numbers k ≡ number) × (slice_get store.nodes k ≡ Some old) × (node ≡ renumbered old)
  source number node e =
      let from = copied.origin number (slice_get_within copies number node e) in
      let old = node_of from.0 (from.1, from.2) in
      (from.0, old.0, (from.1, from.2), from.3, old.1, grind (arith, copied.copy from.0 old.0 from.1 from.2 old.1))

  all_once : EachOnce copies
  all_once i j node e f =
      let a = source i node e in
      let b = source j node f in
      let kids = map_apart IsTaken (slice_index numbers) tell_apart a.1.kids b.1.kids (children_taken a.0 a.1 a.2 a.4) (children_taken b.0 b.1 b.2 b.4) (ap (λ (n : Node). n.kids) (sym a.5 ∙ b.5)) in
      grind (arith, is.once a.0 b.0 b.1)

  -- ---- where a copy comes from

  origin_of : ℕ → ℕ
  origin_of number = elim (cases_lt number (length copies)) [ inl less ↦ (copied.origin number less).0 | inr more ↦ 0 ]

  -- it is the one marked node that has the number
  origin_is : (k number : ℕ) → IsTaken k → slice_index numbers k ≡ number → number < length copies → origin_of number ≡ k
  unfolding origin_of
  origin_is k number taken e within_it = by (cases_lt number (length copies)) where
    by : (side : (number < length copies) ⊎ (length copies ≤ number)) → elim side as (λ s. ℕ) [ inl less ↦ (copied.origin number less).0 | inr more ↦ 0 ] ≡ k
    by (inl less) = let from = copied.origin number less in tell_apart from.0 k (from.1, from.2) taken (from.3 ∙ sym e)
    by (inr more) = absurd (omega (arith, more, within_it))

  origin_taken : (number : ℕ) → number < length copies → (k : ℕ) × IsTaken k × (slice_index numbers k ≡ number) × (origin_of number ≡ k)
  origin_taken number less =
      let from = copied.origin number less in
      (from.0, (from.1, from.2), from.3, origin_is from.0 number (from.1, from.2) from.3 less)

  children_back : (ks : List ℕ) → All IsTaken ks → map origin_of (map (slice_index numbers) ks) ≡ ks
  children_back [] all = refl
  children_back (k ∷ ks) all =
      let taken = all 0 0 (omega arith) in
      λ j. origin_is k (slice_index numbers k) taken refl (copied.same k taken.0 taken.1).within j ∷ children_back ks (λ i d h. all (suc i) d (omega arith)) j

  abbrev as_before : Node → Node
  as_before node = record { what = node.what; kids = map origin_of node.kids }

  all_copied : (number : ℕ) (node : Node) → slice_get copies number ≡ Some node → slice_get store.nodes (origin_of number) ≡ Some (as_before node)
  all_copied number node e =
      let from = source number node e in
      let place = origin_is from.0 number from.2 from.3 (slice_get_within copies number node e) in
      grind (arith, children_back from.1.kids (children_taken from.0 from.1 from.2 from.4))

  all_in_order : (first second : ℕ) → first < second → second < length copies → origin_of first < origin_of second
  all_in_order first second lt less =
      let a = origin_taken first (omega (arith, lt, less)) in
      let b = origin_taken second less in
      grind arith

  bare_same : (what : NodeKind) (ks : List ℕ) → is_bare what (map (slice_index numbers) ks) ≡ is_bare what ks
  bare_same what ks = grind (arith, length-map)

  -- a child of a copy is the copy of a child
  all_not_bare : HasNoBareChild store.nodes → HasNoBareChild copies
  all_not_bare none i k node child e has f =
      let a = source i node e in
      let b = source k child f in
      let from = unmapped (slice_index numbers) a.1.kids k (subst (λ (n : Node). Contains n.kids k) a.5 has) in
      let taken_child : IsTaken from.0 = subst IsTaken from.1.2 (children_taken a.0 a.1 a.2 a.4 from.1.0 from.0 from.1.1) in
      let same : from.0 ≡ b.0 = tell_apart from.0 b.0 taken_child b.2 (from.2 ∙ sym b.3) in
      grind (arith, bare_same b.1.what b.1.kids, none a.0 b.0 a.1 b.1 a.4 (subst (Contains a.1.kids) same from.1) b.4)

-- ---- the whole

pub frozen_graph : (store : Stored) (root : ℕ) (marks : List Bool) (copies : List Node) (numbers : List ℕ) → IsStore store → root < length store.nodes → IsBelow store.nodes root marks → IsCopied store.vars store.nodes marks copies numbers (length marks)
    → IsFrozen store root (record { nodes = copies; vars = store.vars }) × IsGraph (record { nodes = copies; vars = store.vars })
frozen_graph store root marks copies numbers is within below copied =
    let last = copied.last root (sym below.long) below.has in
    let same = copied.same root (omega (arith, below.long)) below.has in
    let place : length copies - 1 ≡ slice_index numbers root = omega (arith, last) in (
      record {
        vars = refl;
        truth = λ a. ap (λ k. is_true copies k a) place ∙ same.truth a;
        few = omega (arith, copied.few, below.long, is.few);
        few_edges = omega (arith, copied.few_edges, sum_by-take-le (λ (x : Node). length x.kids) store.nodes (length marks), is.few_edges);
        origin = origin_of store root marks copies numbers is within below copied;
        copied = all_copied store root marks copies numbers is within below copied;
        root_last = origin_is store root marks copies numbers is within below copied root (length copies - 1) (omega (arith, below.long), below.has) (sym place) (omega (arith, last));
        in_order = all_in_order store root marks copies numbers is within below copied;
        used = all_used store root marks copies numbers is within below copied;
        once = all_once store root marks copies numbers is within below copied;
        no_bare_child = all_not_bare store root marks copies numbers is within below copied;
      },
      record { some = omega (arith, last); few = omega (arith, copied.few, below.long, is.few, is.few_made, is.few_vars); nodes = copied.are },
    )
