use Rattle.std.proofs.Common.{◌≡◌, ◌+◌, ◌-◌, ◌<◌, true, length, get_or, sym, ap, refl, subst, arith, ◌∙◌}
use Rattle.state_rules.specs.Graphs.{is_true, mentions}
use Rattle.part_sets.specs.Numbers.{part_words, set_at}
use Rattle.part_sets.specs.PartSets.{ArePartsOf}
use Rattle.level_lister.specs.inner.Skips.{living}
use Rattle.level_lister.specs.inner.Pairs.{TellsNode, pair_at}
use Rattle.level_lister.proofs.Children.{root_full}
use Rattle.level_lister.proofs.PairNodes.{nodes_more, wider_groups}
use Rattle.level_lister.proofs.pair_pass.PairPass.put_all.Goals as goal

pub loop-at-preserved : goal.loop-at-preserved
loop-at-preserved c = record {
  told = nodes_more c.args.self.now.graph.now c.args.self.now.skips.now c.args.self.now.evidence.now c.args.self.now.levels.now.costs c.args.self.now.levels.now.top c.args.self.now.groups c.loop-at.values c.loop-at.at c.node_pair-pair.result (omega (arith, c.requires.room, c.loop-at.invariant.end, c.loop-at-test.true, c.loop-at.auto.values)) c.loop-at.invariant.told c.node_pair-pair.ensures;
  end = c.loop-at.invariant.end;
}

pub returns-then-lacking-root-eq0 : goal.returns-then-lacking-root-eq0
returns-then-lacking-root-eq0 c =
    let graph = c.args.self.now.graph.now in
    let costs = c.args.self.now.levels.now.costs in
    let inside : length graph.nodes - 1 < length graph.nodes = omega (arith, c.len.ensures.valid.some) in
    let root : c.len.result - 1 ≡ length graph.nodes - 1 = omega (arith, c.len.ensures.len) in
    let next : c.len.result - 1 + 1 ≡ length graph.nodes = omega (arith, c.len.ensures.len, c.len.ensures.valid.some) in
    let all : c.loop-at.at ≡ length graph.nodes = omega (arith, c.loop-at-test.false, c.loop-at.invariant.end, c.loop-at.auto.at-end) in
    let pair : c.pair_at-pair.result ≡ pair_at c.loop-at.values (length graph.nodes - 1) = c.pair_at-pair.ensures ∙ ap (pair_at c.loop-at.values) root in
    let full : get_or c.args.self.now.levels.now.lacking (length graph.nodes) 0 ≡ 0 = sym (λ i. get_or (c.lacking.ensures i) (next i) 0) ∙ c.if-lacking-root-eq0.true in
    wider_groups c.args.self.now.evidence.now costs c.args.self.now.levels.now.top c.args.self.now.groups c.pair_at-pair.result _ _ _ (root_full graph (length costs) (c.args.self.now.for_graph.lacking.all.0 full))
    (subst (TellsNode graph c.args.self.now.skips.now c.args.self.now.evidence.now costs c.args.self.now.levels.now.top c.args.self.now.groups (length graph.nodes - 1)) (sym pair) (c.loop-at.invariant.told (length graph.nodes - 1) (omega (arith, inside, all))))

pub returns : goal.returns
returns c =
    let graph = c.args.self.now.graph.now in
    let costs = c.args.self.now.levels.now.costs in
    let below = c.args.self.now.levels.now.below in
    let size = part_words (length costs) in
    let inside : length graph.nodes - 1 < length graph.nodes = omega (arith, c.len.ensures.valid.some) in
    let root : c.len.result - 1 ≡ length graph.nodes - 1 = omega (arith, c.len.ensures.len) in
    let next : c.len.result - 1 + 1 ≡ length graph.nodes = omega (arith, c.len.ensures.len, c.len.ensures.valid.some) in
    let all : c.loop-at.at ≡ length graph.nodes = omega (arith, c.loop-at-test.false, c.loop-at.invariant.end, c.loop-at.auto.at-end) in
    let pair : c.pair_at-pair.result ≡ pair_at c.loop-at.values (length graph.nodes - 1) = c.pair_at-pair.ensures ∙ ap (pair_at c.loop-at.values) root in
    c.widened.ensures (λ a. is_true (living graph.nodes c.args.self.now.skips.now) (length graph.nodes - 1) a) (λ v. mentions graph.nodes v (length graph.nodes - 1)) (λ v. true)
    (subst (λ k. ArePartsOf (length costs) (λ v. mentions graph.nodes v (length graph.nodes - 1)) (set_at below k size)) (sym root) (c.args.self.now.for_graph.below.nodes (length graph.nodes - 1) inside))
    (subst (λ k. ArePartsOf (length costs) (λ v. true) (set_at below k size)) (sym next) c.args.self.now.for_graph.below.all)
    (λ v e. refl)
    (subst (TellsNode graph c.args.self.now.skips.now c.args.self.now.evidence.now costs c.args.self.now.levels.now.top c.args.self.now.groups (length graph.nodes - 1)) (sym pair) (c.loop-at.invariant.told (length graph.nodes - 1) (omega (arith, inside, all))))
