use Rattle.std.proofs.Common.{◌≡◌, ◌+◌, ◌-◌, ◌<◌, List, ℕ, true, length, get_or, ap, sym, ◌∙◌, refl, subst, arith}
use Rattle.state_rules.specs.Graphs.{is_true, mentions}
use Rattle.part_sets.specs.Numbers.{part_words, set_at}
use Rattle.part_sets.specs.PartSets.{ArePartsOf}
use Rattle.level_lister.specs.inner.Skips.{living}
use Rattle.level_lister.specs.inner.CostSets.{IsCostSet}
use Rattle.level_lister.specs.inner.NodeSets.{IsNodeSet, IsWholeSet}
use Rattle.level_lister.proofs.TestCosts.{wider_is}
use Rattle.level_lister.proofs.Children.{root_full}
use Rattle.level_lister.proofs.search.Asked.put_whole.Goals as goal

pub returns : goal.returns
returns c =
    let graph = c.args.self.now.graph.now in
    let kept = c.args.self.now.levels.now in
    let evidence = c.args.self.now.evidence.now in
    let root = length graph.nodes - 1 in
    let inside : length graph.nodes - 1 < length graph.nodes = omega (arith, c.len.ensures.valid.some) in
    let place : c.len.result - 1 ≡ length graph.nodes - 1 = omega (arith, c.len.ensures.len) in
    let next : c.len.result - 1 + 1 ≡ length graph.nodes = omega (arith, c.len.ensures.len, c.len.ensures.valid.some) in
    let many : length kept.costs ≡ length c.costs-costs.result.now = sym (ap length c.costs-costs.ensures) in
    let size : c.part_words-size.result ≡ part_words (length kept.costs) = c.part_words-size.ensures ∙ ap part_words (sym many) in
    let long : length c.put_sets.new.spare ≡ length c.args.whole.now = omega arith in
    let on_outer : ArePartsOf (length kept.costs) (λ v. true) c.set_at-2.result.now =
    subst (ArePartsOf (length kept.costs) (λ v. true)) (sym (c.set_at-2.ensures.set ∙ (λ i. set_at (c.below-below.ensures i) (next i) (size i)))) c.args.self.now.for_graph.below.all in
    let on_inner : ArePartsOf (length kept.costs) (λ v. mentions graph.nodes v (length graph.nodes - 1)) c.set_at-3.result.now =
    subst (ArePartsOf (length kept.costs) (λ v. mentions graph.nodes v (length graph.nodes - 1))) (sym (c.set_at-3.ensures.set ∙ (λ i. set_at (c.below-below.ensures i) (place i) (size i)))) (c.args.self.now.for_graph.below.nodes (length graph.nodes - 1) inside) in
    let is = subst (λ (cs : List ℕ). IsNodeSet graph c.args.self.now.skips.now evidence cs (length graph.nodes - 1) (set_at c.put_sets.new.sets (length graph.nodes - 1) (length c.args.whole.now))) (sym c.costs-costs.ensures) (c.put_sets.ensures (length graph.nodes - 1) inside) in
    subst (λ (cs : List ℕ). IsWholeSet graph c.args.self.now.skips.now evidence cs c.widen.new.set) c.costs-costs.ensures
    (c.widen.ensures (λ a. is_true (living graph.nodes c.args.self.now.skips.now) (length graph.nodes - 1) a) (λ v. mentions graph.nodes v (length graph.nodes - 1)) (λ v. true)
    (subst (λ n. ArePartsOf n (λ v. mentions graph.nodes v (length graph.nodes - 1)) c.set_at-3.result.now) many on_inner)
    (subst (λ n. ArePartsOf n (λ v. true) c.set_at-2.result.now) many on_outer)
    (λ v e. refl)
    (subst (IsCostSet evidence c.costs-costs.result.now (λ a. is_true (living graph.nodes c.args.self.now.skips.now) (length graph.nodes - 1) a) (λ v. mentions graph.nodes v (length graph.nodes - 1)))
    (sym (c.copy_from_slice.ensures.after ∙ c.set_at.ensures.set ∙ (λ i. set_at c.put_sets.new.sets (place i) (long i)))) is))

pub returns-then-lacking-root-eq0 : goal.returns-then-lacking-root-eq0
returns-then-lacking-root-eq0 c =
    let graph = c.args.self.now.graph.now in
    let kept = c.args.self.now.levels.now in
    let evidence = c.args.self.now.evidence.now in
    let inside : length graph.nodes - 1 < length graph.nodes = omega (arith, c.len.ensures.valid.some) in
    let place : c.len.result - 1 ≡ length graph.nodes - 1 = omega (arith, c.len.ensures.len) in
    let next : c.len.result - 1 + 1 ≡ length graph.nodes = omega (arith, c.len.ensures.len, c.len.ensures.valid.some) in
    let long : length c.put_sets.new.spare ≡ length c.args.whole.now = omega arith in
    let full : get_or kept.lacking (length graph.nodes) 0 ≡ 0 = sym (λ i. get_or (c.lacking.ensures i) (next i) 0) ∙ c.if-lacking-root-eq0.true in
    wider_is evidence kept.costs _ _ _ c.copy_from_slice.new.self (root_full graph (length kept.costs) (c.args.self.now.for_graph.lacking.all.0 full))
    (subst (IsNodeSet graph c.args.self.now.skips.now evidence kept.costs (length graph.nodes - 1)) (sym (c.copy_from_slice.ensures.after ∙ c.set_at.ensures.set ∙ (λ i. set_at c.put_sets.new.sets (place i) (long i)))) (c.put_sets.ensures (length graph.nodes - 1) inside))
