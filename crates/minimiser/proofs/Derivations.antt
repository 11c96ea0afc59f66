-- Which nodes make the root true at its least cost.
use Rattle.std.proofs.Common.{◌≡◌, ℕ, zero, suc, ◌+◌, ◌-◌, ◌<◌, ◌≤◌, Bool, true, false, eqb, ◌&&◌, ◌||◌, List, [], ◌∷◌, map, length, Option, Some, None, refl, ap, sym, ◌∙◌, subst, arith, inl, inr, ⊎_elim}
use Rattle.std.specs.Prelude.{slice_get}
use Rattle.std.specs.List.{list_all, list_any}
use Rattle.std.proofs.lemmas.Bool.{and_from, cases_lt, or_cases, eqb-true, eq-eqb, not-true, true_from_ne_false}
use Rattle.std.proofs.lemmas.List.{get_or_past}
use Rattle.std.proofs.lemmas.Option.{get_or_from_slice_get, slice_get_within, same_Some, slice_get-get_or}
use Rattle.state_rules.proofs.Bits.{same_bit-equal}
use Rattle.state_rules.specs.Assignments.{Assignment}
use Rattle.state_rules.proofs.Lists.{list_any-map}
use Rattle.state_rules.proofs.Members.{In, Passing, any_from, any_in, AtMost}
use Rattle.state_rules.proofs.Values.{length-values_after}
use Rattle.state_rules.specs.declared.nodes.NodeKind.{NodeKind}
use Rattle.state_rules.specs.declared.nodes.NodeKind.TheVariants.{Literal, And, Or}
use Rattle.state_rules.specs.Graphs.{at_most_one, Node, Graph, true_node, truth_by, mention_by, mentions, is_true, IsGraph, node_at}
use Rattle.state_rules.proofs.NodeValues.{are_below, value_of-get}
use Rattle.state_rules.proofs.Children.{at_most_one-tail, not_both}
use Rattle.state_rules.proofs.NodesFit.{fits-get, apart-get}
use Rattle.conditioner.specs.Evidence.{leaf_of}
use Rattle.minimiser.specs.Costs.{part_cost, known_at, sum_costs, cheapest, cost_by, literal_cost, least_at}
use Rattle.node_costs.proofs.Conditions.{one_apart, cost_among-apart, cost_among-one, join, joined-le}
use Rattle.minimiser.proofs.Costs.{fault, open_weights, only_parts, as_cost, IsCost, Agrees, faults_in, faults_in-le, all_faults, and_left, and_right, from_add}
pub use Rattle.node_costs.proofs.Nodes.{all-below}
use Rattle.minimiser.proofs.Nodes as nodes
use Rattle.minimiser.proofs.LeastOfModels.{part_cost-none}

-- ---- members of the children

pub any-child : (f : ℕ → Bool) (kids : List ℕ) (k : ℕ) → In k kids → f k ≡ true → list_any (λ b. b) (map f kids) ≡ true
any-child f kids k m e = list_any-map (λ b. b) f kids ∙ any_in f k kids m e

pub child-with : (f : ℕ → Bool) (kids : List ℕ) → list_any (λ b. b) (map f kids) ≡ true → Passing f kids
child-with f kids e = any_from f kids (sym (list_any-map (λ b. b) f kids) ∙ e)

pub all-child : (f : ℕ → Bool) (kids : List ℕ) (k : ℕ) → In k kids → list_all (λ b. b) (map f kids) ≡ true → f k ≡ true
all-child f [] k m e = absurd m
all-child f (j ∷ kids) k m e = grind (arith, all-child f kids k)

-- an Or node costs no more than a child
pub cheapest-child : (C : ℕ → Option ℕ) (kids : List ℕ) (j d : ℕ) → In j kids → C j ≡ Some d → AtMost (cheapest (map C kids)) d
cheapest-child C [] j d m e = absurd m
cheapest-child C (i ∷ kids) j d m e = grind (arith, cheapest-child C kids j d)

-- and an And node no less
pub sum-child : (C : ℕ → Option ℕ) (kids : List ℕ) (c j : ℕ) → sum_costs (map C kids) ≡ Some c → In j kids → (d : ℕ) × (C j ≡ Some d) × (d ≤ c)
sum-child C [] c j e m = absurd m
sum-child C (k ∷ kids) c j e m = let s = from_add (C k) (sum_costs (map C kids)) c e in grind (arith, sum-child C kids s.right j s.right_is)

module _ (graph : Graph) (evidence costs : List ℕ) (ok : IsGraph graph) where
  abbrev kn : ℕ → Option Bool
  kn v = known_at evidence v

  abbrev price : ℕ → ℕ
  price v = part_cost costs v

  abbrev n : ℕ
  n = length costs

  abbrev T : Assignment → ℕ → Bool
  T a k = is_true graph.nodes k a

  abbrev M : ℕ → ℕ → Bool
  M v k = mentions graph.nodes v k

  abbrev C : ℕ → Option ℕ
  C k = least_at graph evidence costs k

  abbrev root : ℕ
  root = length graph.nodes - 1

  pub is_cost : (k : ℕ) → IsCost kn price n (λ a. T a k) (λ v. M v k) (C k)
  is_cost k = as_cost kn price n _ _ _ (nodes.is_cost kn price n (part_cost-none costs) graph ok k)

  pub below : (i : ℕ) (node : Node) → slice_get graph.nodes i ≡ Some node → are_below i node.kids ≡ true
  below i node e = (fits-get graph.vars graph.nodes i node ok.nodes.fit e).below

  pub true-at : (i : ℕ) (node : Node) → slice_get graph.nodes i ≡ Some node → (a : Assignment) → T a i ≡ truth_by a node.what (map (T a) node.kids)
  true-at i node e a = value_of-get (truth_by a) graph.nodes i node e (below i node e)

  pub mention-at : (i : ℕ) (node : Node) → slice_get graph.nodes i ≡ Some node → (v : ℕ) → M v i ≡ mention_by v node.what (map (M v) node.kids)
  mention-at i node e v = value_of-get (mention_by v) graph.nodes i node e (below i node e)

  pub costs-at : (i : ℕ) (node : Node) → slice_get graph.nodes i ≡ Some node → C i ≡ cost_by kn price node.what (map C node.kids)
  costs-at i node e = nodes.cost-of kn price n (part_cost-none costs) graph ok i (slice_get_within graph.nodes i node e)
      ∙ ap (λ (m : Node). cost_by kn price m.what (map C m.kids)) (get_or_from_slice_get graph.nodes i node true_node e)

  pub apart-kids : (i : ℕ) (kids : List ℕ) → slice_get graph.nodes i ≡ Some (record { what = And; kids = kids }) → (v : ℕ) → at_most_one (map (M v) kids) ≡ true
  apart-kids i kids e v = apart-get (mentions graph.nodes v) graph.nodes i (record { what = And; kids = kids }) (ok.nodes.apart v) e

  abbrev TA : List ℕ → Assignment → Bool
  TA kids a = list_all (λ b. b) (map (T a) kids)

  abbrev MA : List ℕ → ℕ → Bool
  MA kids v = list_any (λ b. b) (map (M v) kids)

  abbrev SA : List ℕ → Option ℕ
  SA kids = sum_costs (map C kids)

  unfoldable pub Apart : List ℕ → Type 0
  Apart kids = (v : ℕ) → at_most_one (map (M v) kids) ≡ true

  pub kids-cost : (kids : List ℕ) → Apart kids → IsCost kn price n (TA kids) (MA kids) (SA kids)
  unfolding Apart
  kids-cost kids apart = as_cost kn price n _ _ _ (nodes.children_cost kn price n (part_cost-none costs) graph ok kids apart)

  pub apart-tail : (j : ℕ) (kids : List ℕ) → Apart (j ∷ kids) → Apart kids
  unfolding Apart
  apart-tail j kids apart v = at_most_one-tail (M v j) (map (M v) kids) (apart v)

  pub apart-both : (j : ℕ) (kids : List ℕ) → Apart (j ∷ kids) → (v : ℕ) → (M v j && MA kids v) ≡ false
  unfolding Apart
  apart-both j kids apart v = not_both (M v j) (map (M v) kids) (apart v)

  -- ---- from the root to a node

  -- an assignment that makes node `k` true, and costs at most `c`
  pub record Achieves (k c : ℕ) (a : Assignment) : Type 0 where
    pub agrees : Agrees (known_at evidence) (part_cost costs) (length costs) a
    pub holds : is_true graph.nodes k a ≡ true
    pub cheap : all_faults (known_at evidence) (part_cost costs) (length costs) a ≤ c

  -- it extends to the root: an assignment with the same bits of the node's variables makes the root true, and costs at most `most`
  pub record Extends (k most : ℕ) (a : Assignment) : Type 0 where
    pub by : Assignment
    pub achieves : Achieves (length graph.nodes - 1) most by
    pub same : (v : ℕ) → mentions graph.nodes v k ≡ true → by v ≡ a v

  pub extends-le : (k c d : ℕ) (a : Assignment) → c ≤ d → Extends k c a → Extends k d a
  extends-le k c d a le x = record { by = x.by; achieves = record { agrees = x.achieves.agrees; holds = x.achieves.holds; cheap = omega (arith, x.achieves.cheap) }; same = x.same }

  -- Outside node `k`, the rest of a derivation of the root costs at most `o`.
  abbrev pub Outside : ℕ → ℕ → Type 0
  Outside k o = (c : ℕ) (a : Assignment) → Achieves k c a → Extends k (o + c) a

  pub outside-root : Outside root 0
  outside-root c a h = record { by = a; achieves = record { agrees = h.agrees; holds = h.holds; cheap = omega (arith, h.cheap) }; same = λ v m. refl }

  record ChildrenBy (kids : List ℕ) (k most : ℕ) (a : Assignment) : Type 0 where
    by : Assignment
    agrees : Agrees kn price n by
    holds : TA kids by ≡ true
    cheap : all_faults kn price n by ≤ most
    same : (v : ℕ) → M v k ≡ true → by v ≡ a v

  kids-by : (kids : List ℕ) → Apart kids → (k : ℕ) → In k kids → (d : ℕ) → C k ≡ Some d → (x : ℕ) (a : Assignment) → Achieves k x a → (r : ℕ) → SA kids ≡ Some (r + d) → ChildrenBy kids k (r + x) a
  kids-by [] apart k m d e x a h r s = absurd m
  kids-by (j ∷ kids) apart k (inl q) d e x a h r s =
      let sum = from_add (C j) (SA kids) (r + d) s in
      let own : d ≡ sum.left = same_Some d sum.left (sym e ∙ ap C q ∙ sum.left_is) in
      let rest = kids-cost kids (apart-tail j kids apart) in
      let b = rest.reached sum.right sum.right_is in
      let y = join (open_weights kn price n) (λ v. M v j) (MA kids) (apart-both j kids apart) a b.by h.agrees b.agrees in
      record {
        by = y.by;
        agrees = y.agrees;
        holds = and_from (T y.by j) (TA kids y.by) ((is_cost j).local y.by a y.as_left ∙ subst (λ i. T a i ≡ true) q h.holds) (rest.local y.by b.by y.as_right ∙ b.holds);
        cheap = omega (arith, joined-le (open_weights kn price n) (λ v. M v j) (MA kids) (λ v. true) a b.by y, h.cheap, b.cheap, sum.sum_is, own);
        same = λ v m. y.as_left v (subst (λ i. M v i ≡ true) q m);
      }
  kids-by (j ∷ kids) apart k (inr m) d e x a h r s =
      let sum = from_add (C j) (SA kids) (r + d) s in
      let own = sum-child C kids sum.right k sum.right_is m in
      let there : own.0 ≡ d = same_Some own.0 d (sym own.1 ∙ e) in
      let more = kids-by kids (apart-tail j kids apart) k m d e x a h (sum.right - d) (sum.right_is ∙ ap Some (omega (arith, own.2, there))) in
      let b = (is_cost j).reached sum.left sum.left_is in
      let y = join (open_weights kn price n) (λ v. M v j) (MA kids) (apart-both j kids apart) b.by more.by b.agrees more.agrees in
      record {
        by = y.by;
        agrees = y.agrees;
        holds = and_from (T y.by j) (TA kids y.by) ((is_cost j).local y.by b.by y.as_left ∙ b.holds) ((kids-cost kids (apart-tail j kids apart)).local y.by more.by y.as_right ∙ more.holds);
        cheap = omega (arith, joined-le (open_weights kn price n) (λ v. M v j) (MA kids) (λ v. true) b.by more.by y, b.cheap, more.cheap, sum.sum_is, own.2, there);
        same = λ v t. y.as_right v (any-child (M v) kids k m t) ∙ more.same v t;
      }

  -- the children of an And node: the other children are true too
  pub outside-and : (p : ℕ) (kids : List ℕ) (o : ℕ) → slice_get graph.nodes p ≡ Some (record { what = And; kids = kids }) → Outside p o → (k : ℕ) → In k kids → (d : ℕ) → C k ≡ Some d → (r : ℕ) → C p ≡ Some (r + d) → Outside k (o + r)
  unfolding Apart
  outside-and p kids o e out k m d f r is x a h =
      let b = kids-by kids (apart-kids p kids e) k m d f x a h r (sym (costs-at p _ e) ∙ is) in
      let y = out (r + x) b.by (record { agrees = b.agrees; holds = true-at p _ e b.by ∙ b.holds; cheap = b.cheap }) in
      extends-le k (o + (r + x)) (o + r + x) a (omega arith) (record { by = y.by; achieves = y.achieves; same = λ v t. y.same v (mention-at p _ e v ∙ any-child (M v) kids k m t) ∙ b.same v t })

  pub outside-or : (p : ℕ) (kids : List ℕ) (o : ℕ) → slice_get graph.nodes p ≡ Some (record { what = Or; kids = kids }) → Outside p o → (k : ℕ) → In k kids → Outside k o
  outside-or p kids o e out k m x a h =
      let y = out x a (record { agrees = h.agrees; holds = true-at p _ e a ∙ any-child (T a) kids k m h.holds; cheap = h.cheap }) in
      record { by = y.by; achieves = y.achieves; same = λ v t. y.same v (mention-at p _ e v ∙ any-child (M v) kids k m t) }

  -- the node is in a derivation of the root at its least cost
  abbrev pub Useful : ℕ → Type 0
  Useful k = (c m : ℕ) → C k ≡ Some c → C root ≡ Some m → (o : ℕ) × Outside k o × (o + c ≡ m)

  pub useful-root : Useful root
  useful-root c m e f = (0, outside-root, (let same = same_Some c m (sym e ∙ f) in omega arith))

  pub useful-and : (p : ℕ) (kids : List ℕ) (c : ℕ) → slice_get graph.nodes p ≡ Some (record { what = And; kids = kids }) → C p ≡ Some c → Useful p → (k : ℕ) → In k kids → Useful k
  useful-and p kids c e is useful k i d m f g =
      let u = useful c m is g in
      let own = sum-child C kids c k (sym (costs-at p _ e) ∙ is) i in
      let same : own.0 ≡ d = same_Some own.0 d (sym own.1 ∙ f) in
      (u.0 + (c - d), outside-and p kids u.0 e u.1 k i d f (c - d) (is ∙ ap Some (omega (arith, own.2, same))), omega (arith, own.2, same, u.2))

  -- the children of an Or node that cost as much
  pub useful-or : (p : ℕ) (kids : List ℕ) (c : ℕ) → slice_get graph.nodes p ≡ Some (record { what = Or; kids = kids }) → C p ≡ Some c → Useful p → (k : ℕ) → In k kids → C k ≡ Some c → Useful k
  useful-or p kids c e is useful k i s d m f g =
      let u = useful c m is g in
      let same = same_Some d c (sym f ∙ s) in
      (u.0, outside-or p kids u.0 e u.1 k i, omega (arith, u.2, same))

  -- an assignment that makes the root true at a cost, and makes a variable false
  pub record FalseAt (most var : ℕ) : Type 0 where
    pub by : Assignment
    pub achieves : Achieves (length graph.nodes - 1) most by
    pub at : by var ≡ false

  -- the variable of a useful literal that says faulty can be false
  pub useful-literal : (k var : ℕ) (kids : List ℕ) → slice_get graph.nodes k ≡ Some (record { what = Literal false var; kids = kids }) → known_at evidence var ≡ None → Useful k → (m : ℕ) → C root ≡ Some m → FalseAt m var
  useful-literal k var kids e open_ useful m f =
      let is : C k ≡ Some (price var) = costs-at k _ e ∙ (λ i. literal_cost (leaf_of false (open_ i)) (price var) false) in
      let r = (is_cost k).reached (price var) is in
      let u = useful (price var) m is f in
      let x = extends-le k (u.0 + price var) m r.by (omega (arith, u.2)) (u.1 (price var) r.by (record { agrees = r.agrees; holds = r.holds; cheap = r.cheap })) in
      record { by = x.by; achieves = x.achieves; at = x.same var (mention-at k _ e var ∙ eq-eqb var var refl) ∙ not-true (r.by var) (sym (true-at k _ e r.by) ∙ r.holds) }

  -- ---- costs above the least

  -- a true child of an And node: it is no further above its least cost than the node
  pub record ChildExcess (kids : List ℕ) (c j : ℕ) (a : Assignment) : Type 0 where
    pub holds : is_true graph.nodes j a ≡ true
    pub cost : ℕ
    pub is : least_at graph evidence costs j ≡ Some cost
    pub excess : c + faults_in (known_at evidence) (part_cost costs) (length costs) (λ v. mentions graph.nodes v j) a
        ≤ faults_in (known_at evidence) (part_cost costs) (length costs) (λ v. list_any (λ b. b) (map (mentions graph.nodes v) kids)) a + cost

  pub child-excess : (a : Assignment) → Agrees kn price n a → (kids : List ℕ) → Apart kids → TA kids a ≡ true → (c : ℕ) → SA kids ≡ Some c → (j : ℕ) → In j kids → ChildExcess kids c j a
  child-excess a ag [] apart h c s j m = absurd m
  child-excess a ag (i ∷ kids) apart h c s j m =
      let sum = from_add (C i) (SA kids) c s in
      let rest = apart-tail i kids apart in
      let here : T a i ≡ true = and_left _ _ h in
      let there : TA kids a ≡ true = and_right (T a i) _ h in
      let low_here = subst (λ o. AtMost o (faults_in kn price n (λ v. M v i) a)) sum.left_is ((is_cost i).bound a ag here) in
      let low_there = subst (λ o. AtMost o (faults_in kn price n (MA kids) a)) sum.right_is ((kids-cost kids rest).bound a ag there) in
      let all = cost_among-apart (open_weights kn price n) (λ v. M v i) (MA kids) a (apart-both i kids apart) in
      ⊎_elim
      (λ (q : j ≡ i). subst (λ x. ChildExcess (i ∷ kids) c x a) (sym q) (record { holds = here; cost = sum.left; is = sum.left_is; excess = omega (arith, all, low_there, sum.sum_is) }))
      (λ (r : In j kids). let x = child-excess a ag kids rest there sum.right sum.right_is j r in record { holds = x.holds; cost = x.cost; is = x.is; excess = omega (arith, all, low_here, x.excess, sum.sum_is) }) m

  -- a true child of an Or node that is true at its least cost: it costs as much
  pub or-child : (a : Assignment) → Agrees kn price n a → (k : ℕ) (kids : List ℕ) (c : ℕ) → slice_get graph.nodes k ≡ Some (record { what = Or; kids = kids }) → C k ≡ Some c → faults_in kn price n (λ v. M v k) a ≤ c
      → (j : ℕ) → In j kids → T a j ≡ true → C j ≡ Some c
  or-child a ag k kids c e is few j m h = by_cost (C j) refl ((is_cost j).bound a ag h) where
    by_cost : (o : Option ℕ) → C j ≡ o → AtMost o (faults_in kn price n (λ v. M v j) a) → C j ≡ Some c
    by_cost None q low = absurd low
    by_cost (Some d) q low =
        let most : c ≤ d = subst (λ o. AtMost o d) (sym (costs-at k _ e) ∙ is) (cheapest-child C kids j d m q) in
        q ∙ ap Some (omega (arith, low, few, most, faults_in-le kn price n (λ v. M v j) (λ v. M v k) a (λ v r. mention-at k _ e v ∙ any-child (M v) kids j m r)))

  -- ---- from the root to a fault

  pub node-there : (k : ℕ) (a : Assignment) → T a k ≡ true → k < length graph.nodes
  node-there k a h = grind (arith, get_or_past, length-values_after, cases_lt)

  module _ (a : Assignment) (agree : Agrees (known_at evidence) (part_cost costs) (length costs) a) (p : ℕ) (low : 1 ≤ p) (high : p < 1 + length costs) (false_at : a p ≡ false)
      (dear : 0 < fault (known_at evidence p) (part_cost costs p) (a p)) where
    abbrev faults : (ℕ → Bool) → ℕ
    faults m = faults_in kn price n m a

    faults-le : (m o : ℕ → Bool) → ((v : ℕ) → m v ≡ true → o v ≡ true) → faults m ≤ faults o
    faults-le m o h = faults_in-le kn price n m o a h

    -- variables with the faulty one cost more than those without it
    pub faults-lt : (m o : ℕ → Bool) → ((v : ℕ) → m v ≡ true → o v ≡ true) → m p ≡ false → o p ≡ true → faults m < faults o
    faults-lt m o h e f =
        let more = cost_among-apart (open_weights kn price n) m (λ v. eqb p v) a (one_apart m p e) in
        let own = cost_among-one (open_weights kn price n) (only_parts kn price n (part_cost-none costs)) p a in
        omega (arith, more, own, faults-le (λ v. m v || eqb p v) o both) where
          both : (v : ℕ) → (m v || eqb p v) ≡ true → o v ≡ true
          both v q = ⊎_elim (λ x. h v x) (λ x. ap o (sym (eqb-true _ _ x)) ∙ f) (or_cases (m v) (eqb p v) q)

    bound-at : (k c : ℕ) → T a k ≡ true → C k ≡ Some c → c ≤ faults (λ v. M v k)
    bound-at k c h e = subst (λ o. AtMost o (faults (λ v. M v k))) e ((is_cost k).bound a agree h)

    -- a node that is true at its least cost, with the faulty variable at it or below
    pub record OnFault (k : ℕ) : Type 0 where
      pub holds : is_true graph.nodes k a ≡ true
      pub has : mentions graph.nodes p k ≡ true
      pub cost : ℕ
      pub is : least_at graph evidence costs k ≡ Some cost
      pub tight : faults_in (known_at evidence) (part_cost costs) (length costs) (λ v. mentions graph.nodes v k) a ≤ cost

    pub on-root : (c : ℕ) → C root ≡ Some c → T a root ≡ true → all_faults kn price n a ≤ c → OnFault root
    on-root c e h cheap = grind (arith, bound-at, faults-lt, faults-le)

    pub record ChildOnFault (kids : List ℕ) : Type 0 where
      pub child : ℕ
      pub is_in : In child kids
      pub on : OnFault child

    on-and : (k : ℕ) (kids : List ℕ) → slice_get graph.nodes k ≡ Some (record { what = And; kids = kids }) → OnFault k → ChildOnFault kids
    unfolding Apart
    on-and k kids e on =
        let j = child-with (M p) kids (sym (mention-at k _ e p) ∙ on.has) in
        let x = child-excess a agree kids (apart-kids k kids e) (sym (true-at k _ e a) ∙ on.holds) on.cost (sym (costs-at k _ e) ∙ on.is) j.item j.is_in in
        let most = faults-le (MA kids) (λ v. M v k) (λ v q. mention-at k _ e v ∙ q) in
        record { child = j.item; is_in = j.is_in; on = record { holds = x.holds; has = j.passes; cost = x.cost; is = x.is; tight = omega (arith, x.excess, on.tight, most) } }

    -- some child of an Or node that costs as much
    pub record CheapChild (kids : List ℕ) (cost : ℕ) : Type 0 where
      pub child : ℕ
      pub is_in : In child kids
      pub same : least_at graph evidence costs child ≡ Some cost
      pub on : OnFault child

    on-or : (k : ℕ) (kids : List ℕ) → slice_get graph.nodes k ≡ Some (record { what = Or; kids = kids }) → (on : OnFault k) → CheapChild kids on.cost
    on-or k kids e on =
        let j = child-with (T a) kids (sym (true-at k _ e a) ∙ on.holds) in
        let cost_is = or-child a agree k kids on.cost e on.is on.tight j.item j.is_in j.passes in
        let inside : (v : ℕ) → M v j.item ≡ true → M v k ≡ true = λ v r. mention-at k _ e v ∙ any-child (M v) kids j.item j.is_in r in
        record {
          child = j.item;
          is_in = j.is_in;
          same = cost_is;
          on = record {
            holds = j.passes;
            has = true_from_ne_false (M p j.item) (λ r. absurd (omega (arith, bound-at j.item on.cost j.passes cost_is, on.tight, faults-lt (λ v. M v j.item) (λ v. M v k) inside r on.has)));
            cost = on.cost;
            is = cost_is;
            tight = omega (arith, faults-le (λ v. M v j.item) (λ v. M v k) inside, on.tight);
          };
        }

    -- Marks that spread from the root to all children of And nodes and to cheap children of Or nodes reach a literal that says faulty.
    module _ (Marked : ℕ → Type 0)
        (ands : (k : ℕ) (kids : List ℕ) (c : ℕ) → slice_get graph.nodes k ≡ Some (record { what = And; kids = kids })
        → least_at graph evidence costs k ≡ Some c → Marked k → (j : ℕ) → In j kids → Marked j)
        (ors : (k : ℕ) (kids : List ℕ) (c : ℕ) → slice_get graph.nodes k ≡ Some (record { what = Or; kids = kids })
        → least_at graph evidence costs k ≡ Some c → Marked k → (j : ℕ) → In j kids
        → least_at graph evidence costs j ≡ Some c → Marked j) where
      pub record MarkedLiteral : Type 0 where
        pub node : ℕ
        pub kids : List ℕ
        pub is : slice_get graph.nodes node ≡ Some (record { what = Literal false p; kids = kids })
        pub marked : Marked node

      pub descend : (fuel k : ℕ) → k < fuel → Marked k → OnFault k → MarkedLiteral
      descend zero k h mark on = absurd (omega arith)
      descend (suc fuel) k h mark on = by_kind (descend fuel) (node_at graph.nodes k).what (node_at graph.nodes k).kids (slice_get-get_or graph.nodes k true_node (node-there k a on.holds)) where
        by_kind : ((j : ℕ) → j < fuel → Marked j → OnFault j → MarkedLiteral) → (what : NodeKind) (kids : List ℕ) → slice_get graph.nodes k ≡ Some (record { what = what; kids = kids }) → MarkedLiteral
        by_kind more (Literal positive var) kids e =
            let at : var ≡ p = eqb-true _ _ (sym (mention-at k _ e p) ∙ on.has) in
            record { node = k; kids = kids; is = e ∙ (λ i. Some (record { what = Literal ((same_bit-equal positive (a var) (sym (true-at k _ e a) ∙ on.holds) ∙ ap a at ∙ false_at) i) (at i); kids = kids })); marked = mark }
        by_kind more And kids e = let x = on-and k kids e on in more x.child (omega (arith, all-below k kids x.child (below k _ e) x.is_in)) (ands k kids on.cost e on.is mark x.child x.is_in) x.on
        by_kind more Or kids e = let x = on-or k kids e on in more x.child (omega (arith, all-below k kids x.child (below k _ e) x.is_in)) (ors k kids on.cost e on.is mark x.child x.is_in x.same) x.on
