use Rattle.std.proofs.Common.{◌<◌, ap, length, arith}
use Rattle.state_rules.specs.Graphs.{Graph}
use Rattle.smooth_nnf.specs.inner.Drawings.{shown}
use Rattle.smooth_nnf.proofs.LineLemmas.{node-added}
use Rattle.smooth_nnf.proofs.lines.add_nodes.Goals as goal

pub loop-node-preserved : goal.loop-node-preserved
loop-node-preserved g c =
    let d = c.args.drawing.now in
    let lt : c.loop-node.node < length d.graph.nodes = omega (arith, c.loop-node-test.true, c.len-node-end.ensures.len, ap (λ (x : Graph). length x.nodes) c.graph.ensures.graph) in
    node-added (shown d) d.graph.nodes c.loop-node.node _ _ _ _ _ _ c.loop-node.invariant c.add_node_lines.ensures lt
