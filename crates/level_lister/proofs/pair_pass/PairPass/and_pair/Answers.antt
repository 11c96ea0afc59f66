use Rattle.std.proofs.Common.{◌+◌, length, get_or, sym, ap, subst, arith}
use Rattle.level_lister.specs.inner.Pairs.{TellsNode, group_count, group_in}
use Rattle.part_sets.proofs.Children.{child-below}
use Rattle.level_lister.proofs.TwoWords.{tells_true}
use Rattle.level_lister.proofs.Children.{apart_children, and_before, and_end}
use Rattle.level_lister.proofs.PairNodes.{Told}
use Rattle.level_lister.proofs.pair_pass.PairPass.and_pair.Goals as goal

pub loop-child-init : goal.loop-child-init
loop-child-init c evidence groups told = tells_true evidence c.args.self.now.levels.now.costs c.args.self.now.levels.now.top (group_count c.args.self.now.levels.now.top) (group_in evidence (length c.args.self.now.levels.now.costs) groups)

pub loop-child-preserved : goal.loop-child-preserved
loop-child-preserved c evidence groups told =
    let graph = c.args.self.now.graph.now in
    let at = c.args.at in
    let kids = c.kids-child-items.result.now in
    let costs = c.args.self.now.levels.now.costs in
    let top = c.args.self.now.levels.now.top in
    let j = c.loop-child.child-index in
    let ok = c.args.self.now.valid in
    let group = group_in evidence (length costs) groups in
    let lt = c.loop-child-test.true in
    let child = subst (TellsNode graph c.args.self.now.skips.now evidence costs top groups (get_or kids j 0)) (sym c.pair_at.ensures) (told (get_or kids j 0) (child-below graph at kids ok c.requires.node.within c.kids-child-items.ensures.kids j lt)) in
    and_before graph at kids ok c.requires.node.within c.kids-child-items.ensures.kids c.args.self.now.skips.now c.requires.node.lives (Told evidence costs top groups c.joined-pair.result) j lt
    (c.joined-pair.ensures evidence costs top (group_count top) group _ _ _ _ c.group_count.ensures.count (ap (λ n. n + 1) c.top.ensures) (apart_children graph at kids ok c.requires.node.within c.kids-child-items.ensures.kids j c.requires.node.what_is lt)
    child (c.loop-child.invariant evidence groups told))

pub returns : goal.returns
returns c evidence groups told =
    and_end c.args.self.now.graph.now c.args.at c.kids-child-items.result.now c.args.self.now.valid c.requires.node.within c.kids-child-items.ensures.kids c.args.self.now.skips.now c.requires.node.lives (Told evidence c.args.self.now.levels.now.costs c.args.self.now.levels.now.top groups c.loop-child.pair) c.loop-child.child-index c.requires.node.what_is (omega arith)
    (c.loop-child.invariant evidence groups told)
