use Rattle.std.proofs.Common.{◌+◌, arith}
use Rattle.probe_report.proofs.Marks.{marked-more, marked-none, none-left, node-more, root-more}
use Rattle.probe_report.proofs.leaving.NodeCosts.lower_block.Goals as goal

pub loop-at-init : goal.loop-at-init
loop-at-init c = record {
  marked = grind (arith, marked-none);
  lowers = none-left _ _ _ c.args.parts c.args.start _ _ c.first_marked-begin.ensures.none;
}

pub loop-at-preserved : goal.loop-at-preserved
loop-at-preserved c =
    let graph = c.args.self.now.graph.now in
    let marked = marked-more graph c.len-count.ensures.valid c.loop-at.marks c.set_mark.new.marks (c.args.parts + c.args.start + 1) c.loop-at.at c.mark_of-mark.result (omega arith) c.loop-at.invariant.marked c.mark_of-mark.ensures c.set_mark.ensures.set c.set_mark.ensures.others in
    record { marked = marked; lowers = node-more graph c.len-count.ensures.valid _ _ _ c.args.parts c.args.start c.loop-at.at (omega arith) marked _ _ _ c.loop-at.auto.list c.loop-at.invariant.lowers c.lower_node.ensures }

pub returns : goal.returns
returns c =
    root-more c.args.self.now.graph.now c.len-count.ensures.valid _ _ c.loop-at.marks c.args.parts c.args.start c.loop-at.at (omega arith) c.loop-at.invariant.marked _ _ _ c.loop-at.auto.list c.loop-at.invariant.lowers (grind arith)
