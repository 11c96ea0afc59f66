use Rattle.std.proofs.Common.{◌<◌, ◌-◌, All, sym, subst, arith}
use Rattle.node_store.proofs.NodesBelow.{shown_get, length-shown, written_bits, marks_more, only_more}
use Rattle.node_store.proofs.store.below.Goals as goal

pub mark-requires-clause-kids : goal.mark-requires-clause-kids
mark-requires-clause-kids c =
    let within = shown_get c.args.nodes.now (c.loop-at.at - 1) c.index-nodes-at.result (omega (arith, length-shown c.args.nodes.now, c.requires.root, c.loop-at.auto.at)) in
    subst (All (λ k. k < c.loop-at.at - 1)) (sym c.as_slice.ensures) (c.requires.kids (c.loop-at.at - 1) _ within)

pub loop-at-preserved : goal.loop-at-preserved
loop-at-preserved c = grind (arith, marks_more, only_more, shown_get, length-shown, written_bits)
