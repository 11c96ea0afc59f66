use Rattle.std.proofs.Common.{◌<◌, length, get_or, sym, subst, arith}
use Rattle.state_rules.specs.Graphs.{is_true, mentions}
use Rattle.part_sets.proofs.Children.{child-below, child-mentions}
use Rattle.level_lister.specs.inner.Skips.{living}
use Rattle.level_lister.specs.inner.Pairs.{TellsNode, group_count, group_in}
use Rattle.level_lister.proofs.Children.{or_next, or_end}
use Rattle.level_lister.proofs.PairNodes.{Told}
use Rattle.level_lister.proofs.pair_pass.PairPass.or_pair.Goals as goal

pub loop-child-preserved : goal.loop-child-preserved
loop-child-preserved c =
    let graph = c.args.self.now.graph.now in
    let evidence = c.args.self.now.evidence.now in
    let groups = c.args.self.now.groups in
    let kids = c.kids-child-items.result.now in
    let costs = c.args.self.now.levels.now.costs in
    let top = c.args.self.now.levels.now.top in
    let j = c.loop-child.child-index in
    let ok = c.args.self.now.valid in
    let lt = c.loop-child-test.true in
    let below = child-below graph c.args.at kids ok c.requires.node.within c.kids-child-items.ensures.kids j lt in
    let inside : get_or kids j 0 < length graph.nodes = omega (arith, below, c.requires.node.within) in
    let child = subst (TellsNode graph c.args.self.now.skips.now evidence costs top groups (get_or kids j 0)) (sym c.pair_at-own.ensures) (c.requires.earlier (get_or kids j 0) below) in
    or_next graph c.args.at kids ok c.requires.node.within c.kids-child-items.ensures.kids c.args.self.now.skips.now c.requires.node.lives (Told evidence costs top groups c.either-pair.result) j lt
    (c.either-pair.ensures evidence costs top (group_count top) (group_in evidence (length costs) groups) _ _ _ c.loop-child.invariant
    (c.widened.ensures (λ a. is_true (living graph.nodes c.args.self.now.skips.now) (get_or kids j 0) a) (λ v. mentions graph.nodes v (get_or kids j 0)) (λ v. mentions graph.nodes v c.args.at)
    (c.args.self.now.for_graph.below.nodes (get_or kids j 0) inside) (c.args.self.now.for_graph.below.nodes c.args.at c.requires.node.within)
    (child-mentions graph c.args.at kids ok c.requires.node.within c.kids-child-items.ensures.kids j c.requires.node.what_is lt) child))

pub returns : goal.returns
returns c =
    or_end c.args.self.now.graph.now c.args.at c.kids-child-items.result.now c.args.self.now.valid c.requires.node.within c.kids-child-items.ensures.kids c.args.self.now.skips.now c.requires.node.lives (Told c.args.self.now.evidence.now c.args.self.now.levels.now.costs c.args.self.now.levels.now.top c.args.self.now.groups c.loop-child.pair) c.loop-child.child-index c.requires.node.what_is (omega arith)
    c.loop-child.invariant
