use Rattle.std.proofs.Common.{◌<◌, length, ◌∙◌, arith}
use Rattle.text_rules.specs.Tokens.{spaced}
use Rattle.state_rules.specs.Graphs.{true_node, node_at}
use Rattle.state_rules.proofs.NodesFit.{fits-at}
use Rattle.nnf_text.specs.GraphTexts.{variable_fits}
use Rattle.nnf_text.specs.WrittenGraphs.{node_words}
use Rattle.nnf_text.proofs.Extended.{extends_each}
use Rattle.projector.specs.Projecting.{projected_node}
use Rattle.projector.proofs.Lines.{projected-line}
use Rattle.projector.proofs.Literals.{variable_fits-from}
use Rattle.projector.proofs.projection.Projection.add_nodes.Goals as goal

pub kind-requires : goal.kind-requires
kind-requires g c =
    let graph = c.args.self.now.graph.now in
    let node = node_at graph.nodes c.loop-node.node in
    let below : c.loop-node.node < length graph.nodes = omega (arith, c.loop-node.invariant.end) in
    (λ i. variable_fits graph.vars (c.what.ensures.what i)) ∙ variable_fits-from graph.vars node.what node.kids (fits-at graph.vars graph.nodes c.loop-node.node c.len-node-end.ensures.valid.nodes.fit below).kind

pub loop-node-preserved : goal.loop-node-preserved
loop-node-preserved g c =
    let projection = c.args.self.now in
    let nodes = projection.graph.now.nodes in
    let below : c.loop-node.node < length nodes = omega (arith, c.loop-node.invariant.end) in
    record {
      added = extends_each (λ node. spaced (node_words (projected_node projection.evidence.now projection.parts node))) nodes c.loop-node.node true_node _ _ _ _ _ _ _ c.loop-node.invariant.added c.add_node.ensures
          (projected-line projection.evidence.now projection.parts (node_at nodes c.loop-node.node) c.what.result c.kind.result c.kids.result.now c.kind.ensures c.what.ensures.what c.kids.ensures.kids) below;
      end = c.loop-node.invariant.end;
    }
