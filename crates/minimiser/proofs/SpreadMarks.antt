-- Marks spread from the root. They say of each literal whether it is in a derivation of the root at its least cost.
use Rattle.std.proofs.Common.{◌≡◌, ◌≢◌, ℕ, zero, suc, ◌+◌, ◌-◌, ◌<◌, ◌≤◌, Bool, true, false, cond, ◌&&◌, List, [], ◌∷◌, length, get_or, min, All, Option, Some, None, refl, ap, sym, ◌∙◌, subst, arith, inl, inr, ⊎_elim}
use Rattle.std.proofs.lemmas.Bool.Decides.{nat_tests}
use Rattle.std.specs.Prelude.{slice_get, nat_le, IsSome}
use Rattle.std.proofs.lemmas.Bool.{cases_lt, leb-true, cases_eq}
use Rattle.std.proofs.lemmas.Option.{slice_get-get_or, slice_get_within, get_or_from_slice_get, same_Some}
use Rattle.state_rules.specs.Bits.{bit_in}
use Rattle.state_rules.specs.declared.nodes.NodeKind.{NodeKind}
use Rattle.state_rules.specs.declared.nodes.NodeKind.TheVariants.{Literal, And, Or}
use Rattle.state_rules.specs.Graphs.{Node, Graph, true_node, node_at, IsGraph}
use Rattle.state_rules.proofs.NodesFit.{fits-get, literal}
use Rattle.state_rules.proofs.Members.{In, AtMost}
use Rattle.conditioner.specs.Evidence.{known_of}
use Rattle.conditioner.specs.Models.{total_cost}
use Rattle.minimiser.specs.Costs.{part_cost, known_at, least_at}
use Rattle.minimiser.specs.inner.Held.{held_cost}
use Rattle.minimiser.specs.Stored.{AreLeastCosts}
use Rattle.minimiser.specs.LeastStates.{Suspect, LeastState, OkBelow}
use Rattle.minimiser.specs.inner.Swept.{IsValue, has_mark, unmarked, IsMarked, is_child, spread_value, HasMarkedParent, IsSwept, suspect_of, suspect_at}
use Rattle.minimiser.proofs.Costs.{fault, and_left, and_right}
use Rattle.minimiser.proofs.Sums.{cost_in-some}
use Rattle.minimiser.proofs.LeastOfModels.{least_is, state_of, assignment_of}
use Rattle.minimiser.proofs.OnePass.{value_small, length-least_costs, children_below, literal_at}
use Rattle.minimiser.proofs.Valued.{cost_in-is, value-is}
use Rattle.minimiser.proofs.Derivations.{sum-child, cheapest-child, Useful, useful-root, useful-and, useful-or, useful-literal, on-root, descend, costs-at, below, all-below}
use Rattle.minimiser.proofs.Models.{LeastIs}
use Rattle.std.proofs.lemmas.List.{get_or_default}

pub some-least : (o : Option ℕ) → IsSome o → (m : ℕ) × (o ≡ Some m)
some-least o h = grind arith

-- ---- marks of values

pub child-out : (kids : List ℕ) (j : ℕ) → is_child kids j ≡ true → In j kids
child-out [] j e = absurd (cc)
child-out (k ∷ kids) j e = grind (arith, child-out kids j)

pub child-in : (kids : List ℕ) (j : ℕ) → In j kids → is_child kids j ≡ true
child-in [] j m = absurd m
child-in (k ∷ kids) j m = grind (arith, child-in kids j)

-- a value when a marked node spreads: it stays, or it was low and is marked
data Spread (kids : List ℕ) (cost j v : ℕ) : ℕ → Type 0 where
  stays : Spread kids cost j v v
  grows : is_child kids j ≡ true → v ≤ cost → Spread kids cost j v (v + 2147483648)

spread-is : (kids : List ℕ) (cost j v : ℕ) → Spread kids cost j v (spread_value kids cost j v)
spread-is kids cost j v = by_test (is_child kids j && nat_le v cost) refl where
  by_test : (b : Bool) → (is_child kids j && nat_le v cost) ≡ b → Spread kids cost j v (cond b (v + 2147483648) v)
  by_test true e = grows (and_left _ _ e) (leb-true _ _ (and_right (is_child kids j) _ e))
  by_test false e = stays

spread-marked : (kids : List ℕ) (cost j v w : ℕ) → cost < 2147483647 → Spread kids cost j v w → has_mark v ≡ true → has_mark w ≡ true
spread-marked kids cost j v w small given e = grind arith

spread-unmarked : (kids : List ℕ) (cost j v w : ℕ) → cost < 2147483647 → Spread kids cost j v w → unmarked w ≡ unmarked v
spread-unmarked kids cost j v w small given = grind arith

-- ---- the sweep

own-cost : (v c : ℕ) → unmarked v ≡ c → has_mark v ≡ true → (v - 2147483648 ≡ c) × (c < 2147483647)
own-cost v c e m = grind arith

module _ (nodes : List Node) (cs : List ℕ) where
  -- a marked node marks its children that cost no more
  module _ (xs ys : List ℕ) (at : ℕ) (lt : at < length nodes) (before : (j : ℕ) → is_child (node_at nodes at).kids j ≡ true → j < at)
      (s : IsSwept nodes cs xs (at + 1)) (m : has_mark (get_or xs at 0) ≡ true)
      (spreads : (j : ℕ) → j < length nodes → get_or ys j 0 ≡ spread_value (node_at nodes at).kids (get_or xs at 0 - 2147483648) j (get_or xs j 0)) where
    abbrev kids : List ℕ
    kids = (node_at nodes at).kids

    abbrev own : ℕ
    own = get_or xs at 0 - 2147483648

    own-is : (own ≡ get_or cs at 0) × (get_or cs at 0 < 2147483647)
    own-is = own-cost (get_or xs at 0) (get_or cs at 0) (s.kept at lt) m

    small : own < 2147483647
    small = omega (arith, own-is.0, own-is.1)

    moves : (j : ℕ) → j < length nodes → Spread kids own j (get_or xs j 0) (get_or ys j 0)
    moves j h = rw (spreads j h) (spread-is kids own j (get_or xs j 0))

    more : (j : ℕ) → j < length nodes → has_mark (get_or xs j 0) ≡ true → has_mark (get_or ys j 0) ≡ true
    more j h q = spread-marked kids own j (get_or xs j 0) (get_or ys j 0) small (moves j h) q

    child-marked : (j : ℕ) → is_child kids j ≡ true → get_or cs j 0 ≤ get_or cs at 0 → has_mark (get_or ys j 0) ≡ true
    child-marked j i h = grind (arith, nat_tests, before, more, spreads)

    new-parent : (k : ℕ) → HasMarkedParent nodes cs xs k → HasMarkedParent nodes cs ys k
    new-parent k p = record { parent = p.parent; within = p.within; marked = more p.parent p.within p.marked; child = p.child; cheap = p.cheap }

    pub swept-met : IsSwept nodes cs ys at
    swept-met = record {
      kept = λ k h. spread-unmarked kids own k (get_or xs k 0) (get_or ys k 0) small (moves k h) ∙ s.kept k h;
      root = more (length nodes - 1) (omega arith) s.root;
      down = grind (arith, nat_tests, child-marked, more);
      up = grind (arith, new-parent);
    }

pub no-kids : (graph : Graph) → IsGraph graph → (k j var : ℕ) (positive : Bool) (kids : List ℕ) → slice_get graph.nodes k ≡ Some (record { what = Literal positive var; kids = kids }) → In j kids → ⊥
no-kids graph ok k j var positive kids e i = subst (In j) (literal graph.vars var positive kids (fits-get graph.vars graph.nodes k _ ok.nodes.fit e).kind).alone i

-- children come before their parents
pub children_before : (graph : Graph) (k : ℕ) (kids : List ℕ) → IsGraph graph → k < length graph.nodes → kids ≡ (node_at graph.nodes k).kids → All (λ j. j < k) kids
children_before graph k _ ok h e = subst (λ ks. All (λ j. j < k) ks) (sym e) (children_below graph k (node_at graph.nodes k) ok (slice_get-get_or graph.nodes k true_node h))

pub child_before : (graph : Graph) (k j : ℕ) → IsGraph graph → k < length graph.nodes → is_child (node_at graph.nodes k).kids j ≡ true → j < k
child_before graph k j ok h i =
    let e = slice_get-get_or graph.nodes k true_node h in
    all-below k (node_at graph.nodes k).kids j (fits-get graph.vars graph.nodes k (node_at graph.nodes k) ok.nodes.fit e).below (child-out (node_at graph.nodes k).kids j i)

-- ---- the costs that the sweep begins with

one_less : (i : ℕ) → suc i - 1 ≡ i
one_less i = omega arith

module _ (graph : Graph) (evidence costs : List ℕ) (ok : IsGraph graph) (total : total_cost costs < 2147483647) (cs : List ℕ) (v : AreLeastCosts graph evidence costs cs) where
  pub are-values : All IsValue cs
  are-values k d h = ⊎_elim (λ (q : get_or cs k 0 ≡ 4294967295). inr (grind (arith, get_or_default)))
      (λ (ne : get_or cs k 0 ≢ 4294967295). let small = value_small graph evidence costs k cs ok v h ne in inl (grind (arith, get_or_default))) (cases_eq (get_or cs k 0) 4294967295)

-- ---- all nodes are looked at

-- the least of the suspects of the first `at` nodes
pub record IsLeastSuspect (suspect : ℕ → Option ℕ) (parts at first : ℕ) : Type 0 where
  pub within : first ≤ parts
  pub found : first < parts → (k : ℕ) × (k < at) × (suspect k ≡ Some first)
  pub all : (k part : ℕ) → k < at → suspect k ≡ Some part → first ≤ part

module _ (suspect : ℕ → Option ℕ) (parts : ℕ) where
  pub first-same : (at first : ℕ) → IsLeastSuspect suspect parts at first → suspect at ≡ None → IsLeastSuspect suspect parts (at + 1) first
  first-same at first f none = grind arith

  pub first-less : (at first part next : ℕ) → IsLeastSuspect suspect parts at first → suspect at ≡ Some part → next ≡ min first part → IsLeastSuspect suspect parts (at + 1) next
  first-less at first part next f is e = record {
    within = omega (arith, f.within);
    found = λ h. ⊎_elim
        (λ (q : first < part). let same : first ≡ next = omega arith in let x = f.found (omega arith) in (x.0, omega (arith, x.1), x.2 ∙ ap Some same))
        (λ (q : part ≤ first). let same : part ≡ next = omega arith in (at, omega arith, is ∙ ap Some same))
        (cases_lt first part);
    all = grind arith;
  }

-- the suspects of the first `at` nodes are flagged
pub record AreFlagged (suspect : ℕ → Option ℕ) (state : List ℕ) (at : ℕ) : Type 0 where
  pub small : All (λ s. s < 2) state
  pub found : (part : ℕ) → part < length state → get_or state part 0 ≡ 1 → (k : ℕ) × (k < at) × (suspect k ≡ Some part)
  pub all : (k part : ℕ) → k < at → part < length state → suspect k ≡ Some part → get_or state part 0 ≡ 1

-- ---- what the sweep says

module _ (graph : Graph) (evidence costs : List ℕ) (ok : IsGraph graph) (long : length evidence ≡ graph.vars) (within : length costs ≤ graph.vars) (total : total_cost costs < 2147483647)
    (most : ℕ) (least_most : LeastIs graph costs evidence most) (cs : List ℕ) (v : AreLeastCosts graph evidence costs cs) where
  room : length cs ≡ length graph.nodes
  room = length-least_costs graph evidence costs cs v

  -- the least cost is that of the held parts and that at the root
  pub record RootCost : Type 0 where
    pub cost : ℕ
    pub is : least_at graph evidence costs (length graph.nodes - 1) ≡ Some cost
    pub sum : most ≡ held_cost costs evidence + cost

  root-cost : RootCost
  root-cost = grind (arith, least_is)

  pub root-low : get_or cs (length graph.nodes - 1) 0 < 2147483647
  root-low =
      let root = are-values graph evidence costs ok total cs v (length graph.nodes - 1) 0 (omega (arith, ok.some, room)) in
      let value = value-is graph evidence costs cs v (length graph.nodes - 1) (omega (arith, ok.some)) in
      let cost = root-cost.is in grind arith

  module _ (xs : List ℕ) (s : IsSwept graph.nodes cs xs 0) where
    -- the cost of a marked node
    cost-of : (k : ℕ) → k < length graph.nodes → IsMarked xs k → least_at graph evidence costs k ≡ Some (get_or cs k 0)
    cost-of k h m = sym (value-is graph evidence costs cs v k h) ∙ cost_in-some (get_or cs k 0) (λ e. absurd (omega (arith, (own-cost (get_or xs k 0) (get_or cs k 0) (s.kept k h) m).1)))

    child-useful : (p k : ℕ) → p < length graph.nodes → k < length graph.nodes → IsMarked xs p → IsMarked xs k → is_child (node_at graph.nodes p).kids k ≡ true → get_or cs k 0 ≤ get_or cs p 0
        → Useful graph evidence costs ok p → Useful graph evidence costs ok k
    child-useful p k hp hk mp mk child cheap useful = by_kind (node_at graph.nodes p).what (node_at graph.nodes p).kids (slice_get-get_or graph.nodes p true_node hp) child where
      by_kind : (what : NodeKind) (kids : List ℕ) → slice_get graph.nodes p ≡ Some (record { what = what; kids = kids }) → is_child kids k ≡ true → Useful graph evidence costs ok k
      by_kind (Literal positive var) kids e i = absurd (no-kids graph ok p k var positive kids e (child-out kids k i))
      by_kind And kids e i = useful-and graph evidence costs ok p kids (get_or cs p 0) e (cost-of p hp mp) useful k (child-out kids k i)
      by_kind Or kids e i =
          let least : get_or cs p 0 ≤ get_or cs k 0 = subst (λ o. AtMost o (get_or cs k 0)) (sym (costs-at graph evidence costs ok p _ e) ∙ cost-of p hp mp)
          (cheapest-child (least_at graph evidence costs) kids k (get_or cs k 0) (child-out kids k i) (cost-of k hk mk)) in
          let same : get_or cs k 0 ≡ get_or cs p 0 = omega arith in
          useful-or graph evidence costs ok p kids (get_or cs p 0) e (cost-of p hp mp) useful k (child-out kids k i) (cost-of k hk mk ∙ ap Some same)

    -- each marked node is in a derivation of the root at its least cost
    marked-useful : (fuel k : ℕ) → length graph.nodes ≤ k + fuel → k < length graph.nodes → IsMarked xs k → Useful graph evidence costs ok k
    marked-useful zero k f h m = absurd (omega arith)
    marked-useful (suc fuel) k f h m = ⊎_elim
        (λ (e : k ≡ length graph.nodes - 1). subst (Useful graph evidence costs ok) (sym e) (useful-root graph evidence costs ok))
        (λ (p : HasMarkedParent graph.nodes cs xs k). child-useful p.parent k p.within h p.marked m p.child p.cheap
        (marked-useful fuel p.parent (omega (arith, child_before graph p.parent k ok p.within p.child)) p.within p.marked))
        (s.up k h m)

    -- a marked literal is of a suspect
    literal-suspect : (k var : ℕ) (kids : List ℕ) → slice_get graph.nodes k ≡ Some (record { what = Literal false var; kids = kids }) → Useful graph evidence costs ok k
        → 1 ≤ var → var ≤ length costs → get_or evidence (var - 1) 0 ≡ 0 → Suspect graph evidence costs (var - 1)
    literal-suspect k var kids e useful low high open_ =
        let r = root-cost in
        let f = useful-literal graph evidence costs ok k var kids e (ap known_of open_) useful r.cost r.is in
        let t = state_of graph evidence costs ok long within f.by f.achieves.agrees f.achieves.holds in
        grind arith

    pub suspect-sound : (k part : ℕ) → k < length graph.nodes → suspect_at graph.nodes evidence (length costs) xs k ≡ Some part → Suspect graph evidence costs part
    suspect-sound k part h e = by_mark (has_mark (get_or xs k 0)) refl e where
      by_kind : IsMarked xs k → (what : NodeKind) (kids : List ℕ) → slice_get graph.nodes k ≡ Some (record { what = what; kids = kids }) → suspect_of evidence (length costs) what ≡ Some part → Suspect graph evidence costs part
      by_kind m (Literal true var) kids f q = absurd (cc)
      by_kind m (Literal false var) kids f q =
          let u = literal-suspect k var kids f (marked-useful (length graph.nodes) k (omega arith) h m) (literal_at graph k var false kids ok f).0 in
          grind (arith, nat_tests)
      by_kind m And kids f q = absurd (cc)
      by_kind m Or kids f q = absurd (cc)

      by_mark : (b : Bool) → has_mark (get_or xs k 0) ≡ b → cond b (suspect_of evidence (length costs) (node_at graph.nodes k).what) None ≡ Some part → Suspect graph evidence costs part
      by_mark true m q = by_kind m (node_at graph.nodes k).what (node_at graph.nodes k).kids (slice_get-get_or graph.nodes k true_node h) q
      by_mark false m q = absurd (cc)

    -- a child of a marked node is marked if it costs no more
    child-swept : (k j c d : ℕ) (node : Node) → slice_get graph.nodes k ≡ Some node → least_at graph evidence costs k ≡ Some c → IsMarked xs k → In j node.kids → least_at graph evidence costs j ≡ Some d → d ≤ c
        → IsMarked xs j
    child-swept k j c d node e f m i g le =
        let h : k < length graph.nodes = slice_get_within graph.nodes k node e in
        let earlier : j < k = all-below k node.kids j (below graph evidence costs ok k node e) i in
        let at : node_at graph.nodes k ≡ node = get_or_from_slice_get graph.nodes k node true_node e in
        let own : get_or cs k 0 ≡ c = cost_in-is (get_or cs k 0) c (value-is graph evidence costs cs v k h ∙ f) in
        let his : get_or cs j 0 ≡ d = cost_in-is (get_or cs j 0) d (value-is graph evidence costs cs v j (omega arith) ∙ g) in
        s.down k j (omega arith) h m (omega arith) (subst (λ (n : Node). is_child n.kids j ≡ true) (sym at) (child-in node.kids j i)) (omega arith)

    -- if an open part is faulty in a state of least cost, a marked literal says so
    pub suspect-found : All (λ c. 0 < c) costs → (part : ℕ) → part < length costs → get_or evidence part 0 ≡ 0 → (h : List Bool) → LeastState graph evidence costs h → bit_in h part ≡ false
        → (k : ℕ) × (k < length graph.nodes) × (suspect_at graph.nodes evidence (length costs) xs k ≡ Some part)
    suspect-found dears part lt open_ h is q =
        let r = root-cost in
        let same : is.most ≡ most = same_Some is.most most (sym is.least_is ∙ least_most) in
        let p = is.passes in
        let a = assignment_of graph evidence costs ok long within h p.long p.model in
        let false_at : a.by (suc part) ≡ false = ap a.by (omega arith) ∙ sym (a.bits part lt) ∙ q in
        let kn : known_at evidence (suc part) ≡ None = ap (λ j. known_of (get_or evidence j 0)) (one_less part) ∙ ap known_of open_ in
        let dear : 0 < fault (known_at evidence (suc part)) (part_cost costs (suc part)) (a.by (suc part)) =
        subst (λ n. 0 < n) (sym (λ i. fault (kn i) (part_cost costs (suc part)) (false_at i))) (dears part 0 lt) in
        let on = on-root graph evidence costs ok a.by a.agrees (suc part) (omega arith) (omega arith) false_at dear r.cost r.is a.holds (omega (arith, a.cost_is, p.cheap, same, r.sum)) in
        let x = descend graph evidence costs ok a.by a.agrees (suc part) (omega arith) (omega arith) false_at dear (IsMarked xs)
        (λ k kids c f g m j i. let y = sum-child (least_at graph evidence costs) kids c j (sym (costs-at graph evidence costs ok k _ f) ∙ g) i in child-swept k j c y.0 _ f g m i y.1 y.2)
        (λ k kids c f g m j i t. child-swept k j c c _ f g m i t (omega arith))
        (length graph.nodes) (length graph.nodes - 1) (omega (arith, ok.some)) s.root on in
        (x.node, slice_get_within graph.nodes x.node _ x.is, found x.node x.kids x.is x.marked) where
          found : (k : ℕ) (kids : List ℕ) → slice_get graph.nodes k ≡ Some (record { what = Literal false (suc part); kids = kids }) → IsMarked xs k → suspect_at graph.nodes evidence (length costs) xs k ≡ Some part
          found k kids e m = grind (arith, get_or_from_slice_get)

    pub ok-before : All (λ c. 0 < c) costs → (first at : ℕ) → at ≡ length graph.nodes → IsLeastSuspect (suspect_at graph.nodes evidence (length costs) xs) (length costs) at first → OkBelow graph evidence costs first
    ok-before dears first at e f part lt open_ h is = grind (arith, suspect-found)

    pub first-suspect : (first at : ℕ) → at ≡ length graph.nodes → IsLeastSuspect (suspect_at graph.nodes evidence (length costs) xs) (length costs) at first → first ≢ length costs → Suspect graph evidence costs first
    first-suspect first at e f ne = let x = f.found (omega (arith, f.within)) in suspect-sound x.0 first (omega (arith, x.1)) x.2

    pub flagged : All (λ c. 0 < c) costs → (state : List ℕ) (at : ℕ) → at ≡ length graph.nodes → length state ≡ length costs → AreFlagged (suspect_at graph.nodes evidence (length costs) xs) state at
        → (part : ℕ) → part < length costs → (get_or state part 0 ≡ 1 → Suspect graph evidence costs part) × (Suspect graph evidence costs part → get_or state part 0 ≡ 1)
    flagged dears state at e l f part lt = (
      λ one. let x = f.found part (omega arith) one in suspect-sound x.0 part (omega (arith, x.1)) x.2,
      λ p. let x = suspect-found dears part lt p.open_ p.state p.is_least p.faulty in f.all x.0 part (omega (arith, x.1)) (omega arith) x.2,
    )
