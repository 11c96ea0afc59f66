use Rattle.std.proofs.Common.{◌≡◌, ◌<◌, List, ℕ, length, get_or, sym, ◌∙◌, ap, subst, arith}
use Rattle.state_rules.specs.Graphs.{is_true, mentions}
use Rattle.scratch_pool.proofs.Counted.{block-below}
use Rattle.part_sets.specs.Numbers.{part_words, set_at}
use Rattle.part_sets.specs.PartSets.{ArePartsOf}
use Rattle.part_sets.proofs.Children.{child-below, child-mentions}
use Rattle.level_lister.specs.inner.Skips.{living}
use Rattle.level_lister.specs.inner.CostSets.{IsCostSet}
use Rattle.level_lister.proofs.Children.{or_next, or_end}
use Rattle.level_lister.proofs.ConditionCosts.{or_is}
use Rattle.level_lister.proofs.search.Asked.put_or.Goals as goal

pub set_at-requires : goal.set_at-requires
set_at-requires c =
    let kids = c.kids-child-items.result.now in
    omega (arith, c.requires.sets, block-below (get_or kids c.loop-child.child-index 0) c.args.at (length c.args.set.now) (child-below c.args.self.now.graph.now c.args.at kids c.args.self.now.valid c.requires.node.within c.kids-child-items.ensures.kids c.loop-child.child-index c.loop-child-test.true))

pub loop-child-preserved : goal.loop-child-preserved
loop-child-preserved c =
    let graph = c.args.self.now.graph.now in
    let kept = c.args.self.now.levels.now in
    let evidence = c.args.self.now.evidence.now in
    let kids = c.kids-child-items.result.now in
    let j = c.loop-child.child-index in
    let child = get_or kids j 0 in
    let ok = c.args.self.now.valid in
    let parts = length kept.costs in
    let below = child-below graph c.args.at kids ok c.requires.node.within c.kids-child-items.ensures.kids j c.loop-child-test.true in
    let inside : child < length graph.nodes = omega arith in
    let many : length kept.costs ≡ length c.costs-costs.result.now = sym (ap length c.costs-costs.ensures) in
    let size : c.part_words-parts.result ≡ part_words (length kept.costs) = c.part_words-parts.ensures ∙ ap part_words (sym many) in
    let on_outer : ArePartsOf parts (λ v. mentions graph.nodes v c.args.at) c.set_at-own.result.now =
    subst (ArePartsOf parts (λ v. mentions graph.nodes v c.args.at)) (sym (c.set_at-own.ensures.set ∙ (λ i. set_at (c.below-below.ensures i) c.args.at (size i)))) (c.args.self.now.for_graph.below.nodes c.args.at c.requires.node.within) in
    let on_inner : ArePartsOf parts (λ v. mentions graph.nodes v child) c.set_at-in-loop-child.result.now =
    subst (ArePartsOf parts (λ v. mentions graph.nodes v child)) (sym (c.set_at-in-loop-child.ensures.set ∙ (λ i. set_at (c.below-below.ensures i) child (size i)))) (c.args.self.now.for_graph.below.nodes child inside) in
    let is = subst (λ (cs : List ℕ). IsCostSet evidence cs (λ a. is_true (living graph.nodes c.args.self.now.skips.now) child a) (λ v. mentions graph.nodes v child) (set_at c.args.sets.now child (length c.args.set.now))) (sym c.costs-costs.ensures) (c.requires.earlier child below) in
    let own = subst (IsCostSet evidence c.costs-costs.result.now (λ a. is_true (living graph.nodes c.args.self.now.skips.now) child a) (λ v. mentions graph.nodes v child)) (sym (c.copy_from_slice.ensures.after ∙ c.set_at.ensures.set)) is in
    or_next graph c.args.at kids ok c.requires.node.within c.kids-child-items.ensures.kids c.args.self.now.skips.now c.requires.node.lives (λ t m. IsCostSet evidence kept.costs t m c.add_shifted.new.set) j c.loop-child-test.true
    (or_is evidence kept.costs _ _ _ c.loop-child.set c.widen.new.set c.add_shifted.new.set (omega arith) (omega arith) (λ n h. c.add_shifted.ensures n (omega arith)) c.loop-child.invariant
    (subst (λ (cs : List ℕ). IsCostSet evidence cs (λ a. is_true (living graph.nodes c.args.self.now.skips.now) child a) (λ v. mentions graph.nodes v c.args.at) c.widen.new.set) c.costs-costs.ensures
    (c.widen.ensures (λ a. is_true (living graph.nodes c.args.self.now.skips.now) child a) (λ v. mentions graph.nodes v child) (λ v. mentions graph.nodes v c.args.at)
    (subst (λ n. ArePartsOf n (λ v. mentions graph.nodes v child) c.set_at-in-loop-child.result.now) many on_inner)
    (subst (λ n. ArePartsOf n (λ v. mentions graph.nodes v c.args.at) c.set_at-own.result.now) many on_outer)
    (child-mentions graph c.args.at kids ok c.requires.node.within c.kids-child-items.ensures.kids j c.requires.node.what_is c.loop-child-test.true) own)))

pub returns : goal.returns
returns c = or_end c.args.self.now.graph.now c.args.at c.kids-child-items.result.now c.args.self.now.valid c.requires.node.within c.kids-child-items.ensures.kids c.args.self.now.skips.now c.requires.node.lives (λ t m. IsCostSet c.args.self.now.evidence.now c.args.self.now.levels.now.costs t m c.loop-child.set) c.loop-child.child-index c.requires.node.what_is (omega arith) c.loop-child.invariant
