-- The least cost at the root if a variable has a bit, from the costs of derivations outside of nodes.
use Rattle.std.proofs.Common.{◌≡◌, ◌≢◌, ℕ, zero, suc, ◌+◌, ◌-◌, ◌<◌, ◌≤◌, Bool, true, false, cond, eqb, List, length, get_or, set, Option, Some, None, refl, ap, sym, ◌∙◌, subst, arith, inl, inr, ⊎_elim}
use Rattle.std.specs.Prelude.{◌⊎◌, slice_get, nat_lt}
use Rattle.std.proofs.lemmas.Bool.{cases_Bool, eqb-true, eq-eqb, ltb-true, ltb-false, false≢true, ne_eqb}
use Rattle.std.proofs.lemmas.List.{get_or-set_same, get_or-set_other}
use Rattle.std.proofs.lemmas.Option.{slice_get-get_or}
use Rattle.state_rules.specs.Assignments.{Assignment}
use Rattle.state_rules.specs.Cases.{agrees_at}
use Rattle.state_rules.proofs.Bits.{same_bit-equal}
use Rattle.state_rules.proofs.Mentions.{mentioned-range}
use Rattle.state_rules.proofs.Members.{In, AtMost, AtMost-le}
use Rattle.state_rules.specs.declared.nodes.NodeKind.{NodeKind}
use Rattle.state_rules.specs.declared.nodes.NodeKind.TheVariants.{Literal, And, Or}
use Rattle.state_rules.specs.Graphs.{Node, Graph, true_node, node_at, is_true, mentions, IsGraph}
use Rattle.conditioner.specs.Evidence.{known_of, word_of, leaf_of}
use Rattle.conditioner.specs.Models.{total_cost}
use Rattle.node_costs.proofs.Totals.{total-same}
use Rattle.minimiser.specs.Costs.{part_cost, known_at, literal_cost, least_at}
use Rattle.minimiser.specs.Stored.{AreLeastCosts}
use Rattle.minimiser.specs.inner.Swept.{is_child}
use Rattle.minimiser.proofs.Costs.{Agrees, faults_in, faults_in-le, all_faults}
use Rattle.minimiser.proofs.Sums.{cost_in-some}
use Rattle.minimiser.proofs.OnePass.{cost_small}
use Rattle.minimiser.proofs.Derivations.{any-child, all-child, child-with, is_cost, true-at, mention-at, costs-at, below, all-below, Achieves}
use Rattle.minimiser.proofs.Valued.{value-is, has_least}
use Rattle.minimiser.proofs.LeastOfModels.{from_bounds}
use Rattle.minimiser.proofs.SpreadMarks.{child-in, child-out}
use Rattle.minimiser.specs.inner.Outside.{AreOutsideCosts}
use Rattle.minimiser.proofs.OutsideCosts.{outside-is, child-fits}
use Rattle.probe_report.specs.inner.Outside.{IsLowered, Without, With}

-- ---- the costs of derivations outside of a node

module _ (graph : Graph) (evidence costs : List ℕ) (ok : IsGraph graph) (vs os : List ℕ) (least : AreLeastCosts graph evidence costs vs) (outside : AreOutsideCosts graph.nodes vs os 0) (total : total_cost costs < 2147483647) where
  abbrev n : ℕ
  n = length graph.nodes

  abbrev root : ℕ
  root = length graph.nodes - 1

  abbrev C : ℕ → Option ℕ
  C k = least_at graph evidence costs k

  abbrev W : ℕ → ℕ
  W k = get_or vs k 0

  abbrev O : ℕ → ℕ
  O k = get_or os k 0

  abbrev faults : ℕ → Assignment → ℕ
  faults k a = faults_in (known_at evidence) (part_cost costs) (length costs) (λ v. mentions graph.nodes v k) a

  child-below : (p : ℕ) (node : Node) → slice_get graph.nodes p ≡ Some node → (j : ℕ) → In j node.kids → j < p
  child-below p node e j i = all-below p node.kids j (below graph evidence costs ok p node e) i

  -- ---- where a variable is left

  record Found (var : ℕ) (bit : Bool) (c : ℕ) : Type 0 where
    cost : ℕ
    le : cost ≤ c
    exit : Without graph.nodes vs os var cost ⊎ With graph.nodes os var bit cost

  -- an assignment that makes the root true leaves the variable at no more than its cost
  module _ (var : ℕ) (bit : Bool) (b : Assignment) (agree : Agrees (known_at evidence) (part_cost costs) (length costs) b) (has_bit : b var ≡ bit) (c : ℕ) (q : c < 2147483647) where
    abbrev M : ℕ → Bool
    M k = mentions graph.nodes var k

    descends : (fuel k : ℕ) → k < fuel → k < n → M k ≡ true → is_true graph.nodes k b ≡ true → O k + faults k b ≤ c → Found var bit c
    descends zero k f h m t g = absurd (omega arith)
    descends (suc fuel) k f h m t g = by_kind (descends fuel) (node_at graph.nodes k).what (node_at graph.nodes k).kids (slice_get-get_or graph.nodes k true_node h) refl refl where
      fits : (kids : List ℕ) (j : ℕ) → (node_at graph.nodes k).kids ≡ kids → In j kids → is_true graph.nodes j b ≡ true → O j + faults j b ≤ O k + faults k b
      fits kids j ks i u = grind (arith, child-fits, child-in)

      by_kind : ((j : ℕ) → j < fuel → j < n → M j ≡ true → is_true graph.nodes j b ≡ true → O j + faults j b ≤ c → Found var bit c)
          → (what : NodeKind) (kids : List ℕ) → slice_get graph.nodes k ≡ Some (record { what = what; kids = kids }) → (node_at graph.nodes k).what ≡ what → (node_at graph.nodes k).kids ≡ kids → Found var bit c
      by_kind more (Literal positive v) kids x w ks =
          let same : v ≡ var = eqb-true v var (sym (mention-at graph evidence costs ok k _ x var) ∙ m) in
          let sign : positive ≡ bit = same_bit-equal positive (b v) (sym (true-at graph evidence costs ok k _ x b) ∙ t) ∙ ap b same ∙ has_bit in
          record { cost = O k; le = omega (arith, g); exit = inr (k, record { within = h; literal = w ∙ (λ i. Literal (sign i) (same i)); is = refl }) }
      by_kind more And kids x w ks =
          let j = child-with M kids (sym (mention-at graph evidence costs ok k _ x var) ∙ m) in
          let low = child-below k _ x j.item j.is_in in
          let holds = all-child (λ i. is_true graph.nodes i b) kids j.item j.is_in (sym (true-at graph evidence costs ok k _ x b) ∙ t) in
          more j.item (omega (arith, low)) (omega (arith, low)) j.passes holds (omega (arith, fits kids j.item ks j.is_in holds, g))
      by_kind more Or kids x w ks =
          let j = child-with (λ i. is_true graph.nodes i b) kids (sym (true-at graph evidence costs ok k _ x b) ∙ t) in
          let low = child-below k _ x j.item j.is_in in
          ⊎_elim
          (λ (r : M j.item ≡ true). more j.item (omega (arith, low)) (omega (arith, low)) r j.passes (omega (arith, fits kids j.item ks j.is_in j.passes, g)))
          (λ (r : M j.item ≡ false).
          let mine : is_child (node_at graph.nodes k).kids j.item ≡ true = subst (λ z. is_child z j.item ≡ true) (sym ks) (child-in kids j.item j.is_in) in
          let value = (has_least graph evidence costs vs least ok b agree j.item (omega (arith, low)) j.passes).low in
          let within = faults_in-le (known_at evidence) (part_cost costs) (length costs) (λ v. mentions graph.nodes v j.item) (λ v. mentions graph.nodes v k) b (λ v q. mention-at graph evidence costs ok k _ x v ∙ any-child (mentions graph.nodes v) kids j.item j.is_in q) in
          record { cost = O k + W j.item; le = omega (arith, value, within, g); exit = grind arith })
          (cases_Bool (M j.item))

  -- ---- a variable that is open and costs nothing, fixed to a bit

  module _ (var : ℕ) (bit : Bool) (low : 1 ≤ var) (there : var ≤ length evidence) (open_ : get_or evidence (var - 1) 0 ≡ 0) (free : part_cost costs var ≡ 0) where
    abbrev fixed : List ℕ
    fixed = set evidence (var - 1) (word_of bit)

    abbrev D : ℕ → Option ℕ
    D k = least_at graph (set evidence (var - 1) (word_of bit)) costs k

    fixed-here : (v : ℕ) → v - 1 ≡ var - 1 → known_at fixed v ≡ Some bit
    fixed-here v e = grind (arith, get_or-set_same)

    fixed-other : (v : ℕ) → (v - 1 ≡ var - 1 → ⊥) → known_at fixed v ≡ known_at evidence v
    fixed-other v ne = ap known_of (get_or-set_other evidence (var - 1) (v - 1) (word_of bit) 0 ne)

    open-here : (v : ℕ) → v - 1 ≡ var - 1 → known_at evidence v ≡ None
    open-here v e = ap (λ i. known_of (get_or evidence i 0)) e ∙ ap known_of open_

    -- the faults are the same if all but the variable is the same
    quiet : (ks ls : ℕ → Option Bool) (a b : Assignment) → ((v : ℕ) → 1 ≤ v → v ≢ var → (ks v ≡ ls v) × (a v ≡ b v)) → all_faults ks (part_cost costs) (length costs) a ≡ all_faults ls (part_cost costs) (length costs) b
    quiet ks ls a b same = grind (arith, total-same)

    other_place : (v : ℕ) → 1 ≤ v → v ≢ var → v - 1 ≡ var - 1 → ⊥
    other_place v l ne e = ne (omega (arith, low))

    -- variable 0 has the bit of the first one
    rounded : Assignment → Assignment
    rounded a v = a (v - 1 + 1)

    rounded-agrees : (a : Assignment) → Agrees (known_at evidence) (part_cost costs) (length costs) a → a var ≡ bit → Agrees (known_at fixed) (part_cost costs) (length costs) (rounded a)
    unfolding rounded
    rounded-agrees a ag at v = grind (arith, fixed-here, fixed-other)

    -- what makes the root true with the bit costs at least what the root does
    with-bit : (c : ℕ) (a : Assignment) → Achieves graph evidence costs ok root c a → a var ≡ bit → AtMost (D root) c
    unfolding rounded
    with-bit c a ach at =
        let same : (v : ℕ) → 1 ≤ v → rounded a v ≡ a v = λ v l. ap a (omega arith) in
        let truth = (is_cost graph evidence costs ok root).local (rounded a) a (λ v m. same v (mentioned-range graph.vars graph.nodes v root ok.nodes.fit m).low) in
        let less = faults_in-le (known_at fixed) (part_cost costs) (length costs) (λ v. mentions graph.nodes v root) (λ v. true) (rounded a) (λ v m. refl) in
        let equal = quiet (known_at fixed) (known_at evidence) (rounded a) a (λ v l ne. (fixed-other v (other_place v l ne), same v l)) in
        AtMost-le (D root) _ c ((is_cost graph fixed costs ok root).bound (rounded a) (rounded-agrees a ach.agrees at) (truth ∙ ach.holds)) (omega (arith, less, equal, ach.cheap))

    -- a node that does not mention the variable is true with either bit
    turned : Assignment → Assignment
    turned a v = cond (eqb var v) bit (a v)

    turned-here : (a : Assignment) → turned a var ≡ bit
    unfolding turned
    turned-here a = ap (λ x. cond x bit (a var)) (eq-eqb var var refl)

    turned-other : (a : Assignment) (v : ℕ) → (var ≡ v → ⊥) → turned a v ≡ a v
    unfolding turned
    turned-other a v ne = ap (λ x. cond x bit (a v)) (ne_eqb var v ne)

    turns : (k c : ℕ) (a : Assignment) → mentions graph.nodes var k ≡ false → Achieves graph evidence costs ok k c a → Achieves graph evidence costs ok k c (turned a)
    turns k c a lacks ach = record {
      agrees = grind (arith, turned-other);
      holds = (is_cost graph evidence costs ok k).local (turned a) a (λ v m. turned-other a v (λ e. false≢true (sym lacks ∙ ap (λ u. mentions graph.nodes u k) e ∙ m))) ∙ ach.holds;
      cheap = omega (arith, ach.cheap, quiet (known_at evidence) (known_at evidence) (turned a) a (λ v l ne. (refl, turned-other a v (λ e. ne (sym e)))));
    }

    -- an exit costs no less than the root
    sound : (c : ℕ) → c < 2147483647 → Without graph.nodes vs os var c ⊎ With graph.nodes os var bit c → AtMost (D root) c
    sound c q (inr w) =
        let k : ℕ = w.0 in
        let l = w.1 in
        let e : slice_get graph.nodes k ≡ Some (record { what = Literal bit var; kids = (node_at graph.nodes k).kids }) = grind (arith, slice_get-get_or) in
        let is : C k ≡ Some 0 = costs-at graph evidence costs ok k _ e ∙ (λ i. literal_cost (leaf_of bit (open-here var refl i)) (free i) bit) ∙ own bit in
        let r = (is_cost graph evidence costs ok k).reached 0 is in
        let y = outside-is graph evidence costs ok vs os least outside total n k (omega arith) l.within (omega (arith, l.is)) 0 r.by (record { agrees = r.agrees; holds = r.holds; cheap = r.cheap }) in
        AtMost-le (D root) (O k + 0) c (with-bit (O k + 0) y.by y.achieves
        (y.same var (mention-at graph evidence costs ok k _ e var ∙ eq-eqb var var refl) ∙ sym (same_bit-equal bit (r.by var) (sym (true-at graph evidence costs ok k _ e r.by) ∙ r.holds)))) (omega (arith, l.is)) where
          own : (b : Bool) → literal_cost (leaf_of b None) 0 b ≡ Some 0
          own b = grind arith
    sound c q (inl (inl w)) =
        let k : ℕ = w.0 in
        let l = w.1 in
        let e : slice_get graph.nodes k ≡ Some (record { what = Or; kids = (node_at graph.nodes k).kids }) = grind (arith, slice_get-get_or) in
        let i = child-out (node_at graph.nodes k).kids l.child l.is_child_of in
        let is : C l.child ≡ Some (W l.child) = sym (value-is graph evidence costs vs least l.child (let b = child-below k _ e l.child i in omega (arith, b, l.within))) ∙ cost_in-some (W l.child) (λ z. absurd (omega (arith, l.value))) in
        let r = (is_cost graph evidence costs ok l.child).reached (W l.child) is in
        let t = turns l.child (W l.child) r.by l.lacks (record { agrees = r.agrees; holds = r.holds; cheap = r.cheap }) in
        let y = outside-is graph evidence costs ok vs os least outside total n k (omega arith) l.within l.small (W l.child) (turned r.by)
        (record { agrees = t.agrees; holds = true-at graph evidence costs ok k _ e (turned r.by) ∙ any-child (λ j. is_true graph.nodes j (turned r.by)) (node_at graph.nodes k).kids l.child i t.holds; cheap = t.cheap }) in
        grind (arith, with-bit, turned-here)
    sound c q (inl (inr l)) =
        let is : C root ≡ Some (W root) = sym (value-is graph evidence costs vs least root (omega (arith, ok.some))) ∙ cost_in-some (W root) (λ z. absurd (omega (arith, l.is))) in
        let r = (is_cost graph evidence costs ok root).reached (W root) is in
        AtMost-le (D root) (W root) c (with-bit (W root) (turned r.by) (turns root (W root) r.by l.lacks (record { agrees = r.agrees; holds = r.holds; cheap = r.cheap })) (turned-here r.by)) (omega (arith, l.is))

    -- the cost of the root is found at an exit
    reached : (c : ℕ) → D root ≡ Some c → c < 2147483647 → Found var bit c
    reached c e q =
        let r = (is_cost graph fixed costs ok root).reached c e in
        let agree : Agrees (known_at evidence) (part_cost costs) (length costs) r.by = grind (arith, fixed-other) in
        let at : r.by var ≡ bit = sym (same_bit-equal bit (r.by var) (sym (ap (λ o. agrees_at o (r.by var)) (fixed-here var refl)) ∙ r.agrees var)) in
        let less = faults_in-le (known_at evidence) (part_cost costs) (length costs) (λ v. mentions graph.nodes v root) (λ v. true) r.by (λ v m. refl) in
        let equal = quiet (known_at fixed) (known_at evidence) r.by r.by (λ v l ne. (fixed-other v (other_place v l ne), refl)) in
        let here : root < n = omega (arith, ok.some) in
        ⊎_elim
        (λ (m : mentions graph.nodes var root ≡ true). descends var bit r.by agree at c q n root here here m r.holds (omega (arith, less, equal, r.cheap, outside.root)))
        (λ (m : mentions graph.nodes var root ≡ false).
        let value = (has_least graph evidence costs vs least ok r.by agree root here r.holds).low in
        record { cost = W root; le = omega (arith, value, less, equal, r.cheap); exit = inl (inr (record { lacks = m; is = refl })) })
        (cases_Bool (mentions graph.nodes var root))

    -- the least exit is the cost of the root
    pub root-is : (best : ℕ) → IsLowered (λ c. Without graph.nodes vs os var c ⊎ With graph.nodes os var bit c) 4294967295 best
        → least_at graph (set evidence (var - 1) (word_of bit)) costs (length graph.nodes - 1) ≡ cond (nat_lt best 2147483647) (Some best) None
    root-is best lowest = by_size (nat_lt best 2147483647) refl where
      low-exit : (c : ℕ) → D root ≡ Some c → best ≤ c
      low-exit c e = let f = reached c e (omega (arith, total, cost_small graph fixed costs root ok c e)) in omega (arith, f.le, lowest.low f.cost f.exit)

      none : (o : Option ℕ) → ((c : ℕ) → o ≡ Some c → ⊥) → o ≡ None
      none o h = grind arith

      by_size : (b : Bool) → nat_lt best 2147483647 ≡ b → D root ≡ cond b (Some best) None
      by_size true t =
          let small : best < 2147483647 = ltb-true best 2147483647 t in
          from_bounds (D root) best (⊎_elim (λ e. absurd (omega arith)) (λ x. sound best small x) lowest.from) low-exit
      by_size false t = none (D root) (λ c e. omega (arith, ltb-false best 2147483647 t, low-exit c e, cost_small graph fixed costs root ok c e, total))
