-- The least cost outside each node.
use Rattle.std.proofs.Common.{◌≡◌, ℕ, zero, suc, ◌+◌, ◌-◌, ◌<◌, ◌≤◌, Bool, true, List, map, length, get_or, Some, ap, sym, ◌∙◌, subst, arith, ⊎_elim}
use Rattle.std.specs.Prelude.{◌⊎◌, slice_get}
use Rattle.std.specs.List.{list_any}
use Rattle.std.proofs.lemmas.Option.{slice_get-get_or, same_Some}
use Rattle.state_rules.specs.Assignments.{Assignment}
use Rattle.state_rules.specs.declared.nodes.NodeKind.{NodeKind}
use Rattle.state_rules.specs.declared.nodes.NodeKind.TheVariants.{Literal, And, Or}
use Rattle.state_rules.specs.Graphs.{Graph, true_node, node_at, is_true, mentions, IsGraph}
use Rattle.state_rules.proofs.Members.{In}
use Rattle.conditioner.specs.Models.{total_cost}
use Rattle.minimiser.specs.Costs.{part_cost, known_at, least_at}
use Rattle.minimiser.specs.Stored.{AreLeastCosts}
use Rattle.minimiser.specs.inner.Swept.{is_child}
use Rattle.minimiser.specs.inner.Outside.{lowered, others_cost, outside_below, HasOutsideParent, AreOutsideCosts}
use Rattle.minimiser.proofs.Costs.{Agrees, faults_in, faults_in-le}
use Rattle.minimiser.proofs.Sums.{cost_in-some}
use Rattle.minimiser.proofs.OnePass.{cost_small}
use Rattle.minimiser.proofs.Derivations.{any-child, true-at, mention-at, costs-at, apart-kids, sum-child, Apart, Achieves, Extends, extends-le, Outside, outside-root, outside-and, outside-or, child-excess}
use Rattle.minimiser.proofs.Valued.{value-is, has_least}
use Rattle.minimiser.proofs.SpreadMarks.{no-kids, child-out, child_before}

-- ---- the sweep

lowered-is : (b : Bool) (cost old new : ℕ) → new ≡ lowered b cost old → (new ≤ old) × (b ≡ true → new ≤ cost) × ((new ≡ old) ⊎ ((b ≡ true) × (new ≡ cost)))
lowered-is b cost old new e = grind arith

-- one more node lowers the costs outside its children
module _ (graph : Graph) (ok : IsGraph graph) (values xs ys : List ℕ) (at : ℕ) (lt : at < length graph.nodes) (s : AreOutsideCosts graph.nodes values xs (at + 1))
    (lowers : (k : ℕ) → k < length graph.nodes → get_or ys k 0 ≡ lowered (is_child (node_at graph.nodes at).kids k) (outside_below graph.nodes values xs at k) (get_or xs k 0)) where
  moves : (k : ℕ) → k < length graph.nodes → (get_or ys k 0 ≤ get_or xs k 0) × (is_child (node_at graph.nodes at).kids k ≡ true → get_or ys k 0 ≤ outside_below graph.nodes values xs at k)
      × ((get_or ys k 0 ≡ get_or xs k 0) ⊎ ((is_child (node_at graph.nodes at).kids k ≡ true) × (get_or ys k 0 ≡ outside_below graph.nodes values xs at k)))
  moves k h = lowered-is _ _ _ _ (lowers k h)

  -- the nodes from this one on stay
  stays : (k : ℕ) → at ≤ k → k < length graph.nodes → get_or ys k 0 ≡ get_or xs k 0
  stays k h g = ⊎_elim (λ e. e) (λ r. absurd (omega (arith, child_before graph at k ok lt r.0))) (moves k g).2

  pub outside-met : AreOutsideCosts graph.nodes values ys at
  outside-met = record {
    root = stays (length graph.nodes - 1) (omega arith) (omega arith) ∙ s.root;
    down = grind (arith, child_before, s.down);
    up = grind (arith, moves);
  }

-- ---- what the numbers mean

module _ (graph : Graph) (evidence costs : List ℕ) (ok : IsGraph graph) (vs os : List ℕ) (least : AreLeastCosts graph evidence costs vs) (outside : AreOutsideCosts graph.nodes vs os 0) where
  abbrev W : ℕ → ℕ
  W k = get_or vs k 0

  abbrev O : ℕ → ℕ
  O k = get_or os k 0

  -- Each number is at least what the rest of a derivation costs.
  pub outside-is : total_cost costs < 2147483647 → (fuel k : ℕ) → length graph.nodes ≤ k + fuel → k < length graph.nodes → O k < 2147483647 → Outside graph evidence costs ok k (O k)
  outside-is total zero k f h q x a ach = absurd (omega arith)
  outside-is total (suc fuel) k f h q x a ach = ⊎_elim
      (λ (r : k ≡ length graph.nodes - 1). extends-le graph evidence costs ok k (0 + x) (O k + x) a (omega arith) (subst (λ j. Extends graph evidence costs ok j (0 + x) a) (sym r) (outside-root graph evidence costs ok x a (subst (λ j. Achieves graph evidence costs ok j x a) r ach))))
      (λ (p : HasOutsideParent graph.nodes vs os k). by_kind (outside-is total fuel) p.parent p.within (node_at graph.nodes p.parent).what (node_at graph.nodes p.parent).kids
      (slice_get-get_or graph.nodes p.parent true_node p.within) (child-out (node_at graph.nodes p.parent).kids k p.child) (child_before graph p.parent k ok p.within p.child) p.cheap)
      (outside.up k h q) where
        by_kind : ((j : ℕ) → length graph.nodes ≤ j + fuel → j < length graph.nodes → O j < 2147483647 → Outside graph evidence costs ok j (O j)) → (p : ℕ) → p < length graph.nodes → (what : NodeKind) (kids : List ℕ)
            → slice_get graph.nodes p ≡ Some (record { what = what; kids = kids }) → In k kids → k < p → O p + others_cost what (W p) (W k) ≤ O k → Extends graph evidence costs ok k (O k + x) a
        by_kind more p g (Literal positive v) kids e i l c = absurd (no-kids graph ok p k v positive kids e i)
        by_kind more p g And kids e i l c =
            let own = has_least graph evidence costs vs least ok a ach.agrees k h ach.holds in
            let small = cost_small graph evidence costs k ok (W k) own.is in
            let all : least_at graph evidence costs p ≡ Some (W p) = sym (value-is graph evidence costs vs least p g) ∙ cost_in-some (W p) (λ z. absurd (omega (arith, small, z))) in
            let there = sum-child (least_at graph evidence costs) kids (W p) k (sym (costs-at graph evidence costs ok p _ e) ∙ all) i in
            let le : W k ≤ W p = omega (arith, there.2, same_Some there.0 (W k) (sym there.1 ∙ own.is)) in
            extends-le graph evidence costs ok k (O p + (W p - W k) + x) (O k + x) a (omega arith)
            (outside-and graph evidence costs ok p kids (O p) e (more p (omega arith) g (omega arith)) k i (W k) own.is (W p - W k) (all ∙ ap Some (omega arith)) x a ach)
        by_kind more p g Or kids e i l c = extends-le graph evidence costs ok k (O p + x) (O k + x) a (omega arith) (outside-or graph evidence costs ok p kids (O p) e (more p (omega arith) g (omega arith)) k i x a ach)

  module _ (a : Assignment) (agree : Agrees (known_at evidence) (part_cost costs) (length costs) a) where
    abbrev faults : ℕ → ℕ
    faults k = faults_in (known_at evidence) (part_cost costs) (length costs) (λ v. mentions graph.nodes v k) a

    -- the cost of a true child and that outside it are no more than those of the node
    pub child-fits : (k j : ℕ) → k < length graph.nodes → is_child (node_at graph.nodes k).kids j ≡ true → is_true graph.nodes k a ≡ true → is_true graph.nodes j a ≡ true → O j + faults j ≤ O k + faults k
    unfolding Apart
    child-fits k j h i t u =
        let d = outside.down k j (omega arith) h i in
        let x = by_kind (node_at graph.nodes k).what (node_at graph.nodes k).kids (slice_get-get_or graph.nodes k true_node h) (child-out (node_at graph.nodes k).kids j i) in
        omega arith where
          by_kind : (what : NodeKind) (kids : List ℕ) → slice_get graph.nodes k ≡ Some (record { what = what; kids = kids }) → In j kids → others_cost what (W k) (W j) + faults j ≤ faults k
          by_kind (Literal positive v) kids e m = absurd (no-kids graph ok k j v positive kids e m)
          by_kind And kids e m =
              let own = has_least graph evidence costs vs least ok a agree k h t in
              let sum = sym (costs-at graph evidence costs ok k _ e) ∙ own.is in
              let y = child-excess graph evidence costs ok a agree kids (apart-kids graph evidence costs ok k kids e) (sym (true-at graph evidence costs ok k _ e a) ∙ t) (W k) sum j m in
              let same = same_Some y.cost (W j) (sym y.is ∙ (has_least graph evidence costs vs least ok a agree j (omega (arith, child_before graph k j ok h i)) u).is) in
              let most = sum-child (least_at graph evidence costs) kids (W k) j sum m in
              let less = same_Some most.0 y.cost (sym most.1 ∙ y.is) in
              let all = faults_in-le (known_at evidence) (part_cost costs) (length costs) (λ v. list_any (λ b. b) (map (mentions graph.nodes v) kids)) (λ v. mentions graph.nodes v k) a (λ v r. mention-at graph evidence costs ok k _ e v ∙ r) in
              omega (arith, y.excess, most.2)
          by_kind Or kids e m = omega (arith, faults_in-le (known_at evidence) (part_cost costs) (length costs) (λ v. mentions graph.nodes v j) (λ v. mentions graph.nodes v k) a (λ v r. mention-at graph evidence costs ok k _ e v ∙ any-child (mentions graph.nodes v) kids j m r))
