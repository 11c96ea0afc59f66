use Rattle.std.proofs.Common.{◌*◌, ◌<◌, length, get_or, sym, ◌∙◌, ap, subst, arith}
use Rattle.state_rules.specs.Graphs.{is_true, mentions}
use Rattle.scratch_pool.proofs.Counted.{block-below}
use Rattle.part_sets.specs.Numbers.{set_at}
use Rattle.part_sets.proofs.Children.{child-below, child-mentions}
use Rattle.level_lister.specs.inner.Skips.{living}
use Rattle.level_lister.specs.inner.NodeSets.{IsNodeSet}
use Rattle.level_lister.specs.inner.FaultSets.{in_first, IsFaultSet, IsNodeFaults}
use Rattle.level_lister.proofs.FaultCosts.{fault_or}
use Rattle.level_lister.proofs.Children.{or_next, or_end}
use Rattle.level_lister.proofs.fault_pass.FaultPass.put_or_faults.Goals as goal

pub set_at-requires : goal.set_at-requires
set_at-requires c =
    let graph = c.args.self.now.graph.now in
    let kids = c.kids-child-items.result.now in
    let below = child-below graph c.args.at kids c.args.self.now.valid c.requires.node.within c.kids-child-items.ensures.kids c.loop-child.child-index c.loop-child-test.true in
    omega (
      arith,
      c.args.self.now.room,
      block-below (get_or kids c.loop-child.child-index 0) (length graph.nodes) c.size-size.result (omega (arith, below, c.requires.node.within)),
      ap (λ n. length graph.nodes * n) c.size-size.ensures,
    )

pub set_at-requires-in-loop-child : goal.set_at-requires-in-loop-child
set_at-requires-in-loop-child c =
    let kids = c.kids-child-items.result.now in
    let below = child-below c.args.self.now.graph.now c.args.at kids c.args.self.now.valid c.requires.node.within c.kids-child-items.ensures.kids c.loop-child.child-index c.loop-child-test.true in
    omega (arith, c.requires.sets, block-below (get_or kids c.loop-child.child-index 0) c.args.at c.size-size.result below, ap (λ n. c.args.at * n) c.size-size.ensures)

pub loop-child-preserved : goal.loop-child-preserved
loop-child-preserved c =
    let graph = c.args.self.now.graph.now in
    let evidence = c.args.self.now.evidence.now in
    let costs = c.args.self.now.levels.now.costs in
    let groups = c.args.self.now.groups in
    let kids = c.kids-child-items.result.now in
    let j = c.loop-child.child-index in
    let child = get_or kids j 0 in
    let ok = c.args.self.now.valid in
    let lt = c.loop-child-test.true in
    let below = child-below graph c.args.at kids ok c.requires.node.within c.kids-child-items.ensures.kids j lt in
    let inside : child < length graph.nodes = omega (arith, below, c.requires.node.within) in
    let all : IsNodeSet graph c.args.self.now.skips.now evidence costs child c.copy_from_slice.new.self =
    subst (IsNodeSet graph c.args.self.now.skips.now evidence costs child) (sym (c.copy_from_slice.ensures.after ∙ c.set_at.ensures.set ∙ ap (λ n. set_at c.args.self.now.sets.now child n) c.size-size.ensures)) (c.requires.are child inside) in
    let faults : IsNodeFaults graph c.args.self.now.skips.now evidence costs groups child c.copy_from_slice-in-loop-child.new.self =
    subst (IsNodeFaults graph c.args.self.now.skips.now evidence costs groups child) (sym (c.copy_from_slice-in-loop-child.ensures.after ∙ c.set_at-in-loop-child.ensures.set ∙ ap (λ n. set_at c.args.earlier.now child n) c.size-size.ensures)) (c.requires.earlier child below) in
    let wide = c.widen_both.ensures (λ a. is_true (living graph.nodes c.args.self.now.skips.now) child a) (λ v. mentions graph.nodes v child) (λ v. mentions graph.nodes v c.args.at)
    (c.args.self.now.for_graph.below.nodes child inside) (c.args.self.now.for_graph.below.nodes c.args.at c.requires.node.within)
    (child-mentions graph c.args.at kids ok c.requires.node.within c.kids-child-items.ensures.kids j c.requires.node.what_is lt) (record { all = all; faulty = faults }) in
    or_next graph c.args.at kids ok c.requires.node.within c.kids-child-items.ensures.kids c.args.self.now.skips.now c.requires.node.lives (λ t m. IsFaultSet evidence costs (in_first evidence costs groups) t m c.add_shifted.new.set) j lt
    (fault_or evidence costs (in_first evidence costs groups) _ _ _ c.loop-child.set c.widen_both.new.faults c.add_shifted.new.set (omega arith) (omega arith) (λ n h. c.add_shifted.ensures n (omega arith)) c.loop-child.invariant wide.faulty)

pub returns : goal.returns
returns c =
    let evidence = c.args.self.now.evidence.now in
    let costs = c.args.self.now.levels.now.costs in
    or_end c.args.self.now.graph.now c.args.at c.kids-child-items.result.now c.args.self.now.valid c.requires.node.within c.kids-child-items.ensures.kids c.args.self.now.skips.now c.requires.node.lives (λ t m. IsFaultSet evidence costs (in_first evidence costs c.args.self.now.groups) t m c.loop-child.set)
    c.loop-child.child-index c.requires.node.what_is (omega arith) c.loop-child.invariant
