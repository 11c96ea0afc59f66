use Rattle.std.proofs.Common.{length, get_or, sym, subst, arith}
use Rattle.level_lister.specs.inner.Pairs.{TellsNode, group_count, group_in}
use Rattle.part_sets.proofs.Children.{child-below}
use Rattle.level_lister.proofs.Children.{child_full, or_next, or_end}
use Rattle.level_lister.proofs.PairNodes.{Told, wider_groups}
use Rattle.level_lister.proofs.pair_pass.PairPass.full_pair.Goals as goal

pub loop-child-preserved : goal.loop-child-preserved
loop-child-preserved c evidence groups told =
    let graph = c.args.self.now.graph.now in
    let kids = c.kids-child-items.result.now in
    let costs = c.args.self.now.levels.now.costs in
    let top = c.args.self.now.levels.now.top in
    let j = c.loop-child.child-index in
    let ok = c.args.self.now.valid in
    let lt = c.loop-child-test.true in
    let below = child-below graph c.args.at kids ok c.requires.node.within c.kids-child-items.ensures.kids j lt in
    let child = subst (TellsNode graph c.args.self.now.skips.now evidence costs top groups (get_or kids j 0)) (sym c.pair_at.ensures) (told (get_or kids j 0) below) in
    or_next graph c.args.at kids ok c.requires.node.within c.kids-child-items.ensures.kids c.args.self.now.skips.now c.requires.node.lives (Told evidence costs top groups c.either-pair.result) j lt
    (c.either-pair.ensures evidence costs top (group_count top) (group_in evidence (length costs) groups) _ _ _ (c.loop-child.invariant evidence groups told)
    (wider_groups evidence costs top groups c.pair_at.result _ _ _ (child_full graph c.args.at kids ok c.requires.node.within c.kids-child-items.ensures.kids (length costs) j c.requires.node.what_is lt c.requires.same) child))

pub returns : goal.returns
returns c evidence groups told =
    or_end c.args.self.now.graph.now c.args.at c.kids-child-items.result.now c.args.self.now.valid c.requires.node.within c.kids-child-items.ensures.kids c.args.self.now.skips.now c.requires.node.lives (Told evidence c.args.self.now.levels.now.costs c.args.self.now.levels.now.top groups c.loop-child.pair) c.loop-child.child-index c.requires.node.what_is (omega arith)
    (c.loop-child.invariant evidence groups told)
