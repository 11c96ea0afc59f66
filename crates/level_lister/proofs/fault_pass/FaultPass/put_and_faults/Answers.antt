use Rattle.std.proofs.Common.{◌*◌, ◌<◌, length, get_or, sym, ◌∙◌, ap, subst, arith}
use Rattle.part_sets.specs.Numbers.{set_at}
use Rattle.scratch_pool.proofs.Counted.{block-below}
use Rattle.part_sets.proofs.Children.{child-below}
use Rattle.level_lister.specs.inner.NodeSets.{IsNodeSet}
use Rattle.level_lister.specs.inner.FaultSets.{in_first, IsFaultSet, AreBothSets, IsNodeFaults}
use Rattle.level_lister.proofs.FaultNodes.{both_zero, no_fault_below}
use Rattle.level_lister.proofs.Children.{children_apart, and_next, and_end}
use Rattle.level_lister.proofs.fault_pass.FaultPass.put_and_faults.Goals as goal

pub loop-child-init : goal.loop-child-init
loop-child-init c = both_zero c.args.self.now.evidence.now c.args.self.now.levels.now.costs _ c.put_one.new.set c.clear.new.set (λ n h. c.put_one.ensures n (omega arith)) c.clear.ensures

pub set_at-own-requires : goal.set_at-own-requires
set_at-own-requires c =
    let graph = c.args.self.now.graph.now in
    let kids = c.kids-child-items.result.now in
    let below = child-below graph c.args.at kids c.args.self.now.valid c.requires.node.within c.kids-child-items.ensures.kids c.loop-child.child-index c.loop-child-test.true in
    omega (
      arith,
      c.args.self.now.room,
      block-below (get_or kids c.loop-child.child-index 0) (length graph.nodes) c.size-size.result (omega (arith, below, c.requires.node.within)),
      ap (λ n. length graph.nodes * n) c.size-size.ensures,
    )

pub set_at-faults-requires : goal.set_at-faults-requires
set_at-faults-requires c =
    let kids = c.kids-child-items.result.now in
    let below = child-below c.args.self.now.graph.now c.args.at kids c.args.self.now.valid c.requires.node.within c.kids-child-items.ensures.kids c.loop-child.child-index c.loop-child-test.true in
    omega (arith, c.requires.sets, block-below (get_or kids c.loop-child.child-index 0) c.args.at c.size-size.result below, ap (λ n. c.args.at * n) c.size-size.ensures)

pub loop-child-preserved : goal.loop-child-preserved
loop-child-preserved c =
    let graph = c.args.self.now.graph.now in
    let at = c.args.at in
    let evidence = c.args.self.now.evidence.now in
    let costs = c.args.self.now.levels.now.costs in
    let groups = c.args.self.now.groups in
    let kids = c.kids-child-items.result.now in
    let j = c.loop-child.child-index in
    let child = get_or kids j 0 in
    let ok = c.args.self.now.valid in
    let lt = c.loop-child-test.true in
    let below = child-below graph at kids ok c.requires.node.within c.kids-child-items.ensures.kids j lt in
    let inside : child < length graph.nodes = omega (arith, below, c.requires.node.within) in
    let own : IsNodeSet graph c.args.self.now.skips.now evidence costs child c.set_at-own.result.now =
    subst (IsNodeSet graph c.args.self.now.skips.now evidence costs child) (sym (c.set_at-own.ensures.set ∙ ap (λ n. set_at c.args.self.now.sets.now child n) c.size-size.ensures)) (c.requires.are child inside) in
    let faults : IsNodeFaults graph c.args.self.now.skips.now evidence costs groups child c.set_at-faults.result.now =
    subst (IsNodeFaults graph c.args.self.now.skips.now evidence costs groups child) (sym (c.set_at-faults.ensures.set ∙ ap (λ n. set_at c.args.earlier.now child n) c.size-size.ensures)) (c.requires.earlier child below) in
    and_next graph at kids ok c.requires.node.within c.kids-child-items.ensures.kids c.args.self.now.skips.now c.requires.node.lives (λ t m. AreBothSets evidence costs (in_first evidence costs groups) t m c.put_both_sums.new.all c.put_both_sums.new.set) j lt
    (c.put_both_sums.ensures evidence costs (in_first evidence costs groups) _ _ _ _ (children_apart graph at kids ok c.requires.node.within c.kids-child-items.ensures.kids j c.requires.node.what_is lt)
    c.loop-child.invariant (record { all = own; faulty = faults }))

pub returns-then-not-has_faulty_child : goal.returns-then-not-has_faulty_child
returns-then-not-has_faulty_child c =
    no_fault_below c.args.self.now.graph.now c.args.self.now.skips.now c.args.self.now.evidence.now c.args.self.now.levels.now.costs c.args.self.now.groups c.args.at _ c.args.earlier.now c.clear.new.set c.args.self.now.valid c.requires.node c.requires.sets (omega arith) c.requires.earlier
    (c.has_faulty_child.ensures c.if-not-has_faulty_child.true) c.clear.ensures

pub returns : goal.returns
returns c =
    let evidence = c.args.self.now.evidence.now in
    let costs = c.args.self.now.levels.now.costs in
    and_end c.args.self.now.graph.now c.args.at c.kids-child-items.result.now c.args.self.now.valid c.requires.node.within c.kids-child-items.ensures.kids c.args.self.now.skips.now c.requires.node.lives (λ t m. IsFaultSet evidence costs (in_first evidence costs c.args.self.now.groups) t m c.loop-child.set)
    c.loop-child.child-index c.requires.node.what_is (omega arith) c.loop-child.invariant.faulty
