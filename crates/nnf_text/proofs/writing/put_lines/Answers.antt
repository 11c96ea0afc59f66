use Rattle.nnf_text.proofs.Extended.{extends_on, extends_whole}
use Rattle.nnf_text.proofs.LineTexts.{text-lines}
use Rattle.nnf_text.proofs.writing.put_lines.Goals as goal

pub returns-clause-bytes : goal.returns-clause-bytes
returns-clause-bytes g c =
    let all = extends_on _ _ _ _ _ _ _ _ _ c.add_header.ensures c.add_nodes.ensures (text-lines c.len.result c.edges.result c.args.vars c.args.graph.now.nodes c.len.ensures.len c.edges.ensures) in
    (extends_whole _ _ _ _ _ _ _ _ _ _ _ (g.O.Sink.shown_is _) (g.O.Sink.shown_is _) c.new-text.ensures all c.finish.ensures).0
