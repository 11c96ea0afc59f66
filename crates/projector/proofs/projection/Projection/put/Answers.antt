use Rattle.std.proofs.Common.{◌+◌, refl, arith}
use Rattle.nnf_text.proofs.Extended.{extends_three, extends_whole}
use Rattle.nnf_text.proofs.ReadingBack.{edges-le}
use Rattle.projector.proofs.Lines.{written}
use Rattle.projector.proofs.projection.Projection.put.Goals as goal

pub overflow_add-edges : goal.overflow_add-edges
overflow_add-edges g c =
    let graph = c.args.self.now.graph.now in
    omega (arith, c.edges.ensures, edges-le graph.vars 0 graph.nodes c.len.ensures.valid.nodes.fit, c.args.self.now.few, c.from.ensures, c.held_count-held.ensures.most)

pub overflow_add-edges-2 : goal.overflow_add-edges-2
overflow_add-edges-2 g c =
    let graph = c.args.self.now.graph.now in
    omega (arith, c.edges.ensures, edges-le graph.vars 0 graph.nodes c.len.ensures.valid.nodes.fit, c.args.self.now.few, c.from.ensures, c.held_count-held.ensures.most)

pub returns-clause-bytes : goal.returns-clause-bytes
returns-clause-bytes g c =
    let p = c.args.self.now in
    let held = c.held_count-held.result in
    let text = written p.graph.now p.evidence.now p.parts _ _ held c.held_count-held.ensures.count (λ i. c.len.ensures.len i + held + 1) (λ i. c.edges.ensures i + c.from.ensures i + 1) in
    let all = extends_three _ _ _ _ _ _ _ _ _ _ _ _ c.add_header.ensures c.add_nodes.ensures c.add_ends.ensures text in
    (extends_whole _ _ _ _ _ _ _ _ _ _ _ (g.O.Sink.shown_is _) (g.O.Sink.shown_is _) c.new-text.ensures all c.finish.ensures).0

pub returns-clause-cause : goal.returns-clause-cause
returns-clause-cause g c =
    let all = extends_three _ _ _ _ _ _ _ _ _ _ _ _ c.add_header.ensures c.add_nodes.ensures c.add_ends.ensures refl in
    (extends_whole _ _ _ _ _ _ _ _ _ _ _ (g.O.Sink.shown_is _) (g.O.Sink.shown_is _) c.new-text.ensures all c.finish.ensures).1
