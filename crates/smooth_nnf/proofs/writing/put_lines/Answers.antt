use Rattle.std.proofs.Common.{refl}
use Rattle.nnf_text.proofs.Extended.{extends_on, extends_three, extends_whole}
use Rattle.smooth_nnf.specs.inner.Drawings.{shown}
use Rattle.smooth_nnf.proofs.EdgeLemmas.{all-written}
use Rattle.smooth_nnf.proofs.writing.put_lines.Goals as goal

pub returns-clause-bytes : goal.returns-clause-bytes
returns-clause-bytes g c =
    let text = all-written (shown c.args.drawing.now) c.args.count c.edge_count.result c.parts.result c.parts-2.result c.requires.count c.edge_count.ensures c.parts.ensures.parts c.parts-2.ensures.parts in
    let all = extends_on _ _ _ _ _ _ _ _ _ c.add_header.ensures (extends_three _ _ _ _ _ _ _ _ _ _ _ _ c.add_literals.ensures c.add_nodes.ensures c.add_last.ensures refl) text in
    (extends_whole _ _ _ _ _ _ _ _ _ _ _ (g.O.Sink.shown_is _) (g.O.Sink.shown_is _) c.new-text.ensures all c.finish.ensures).0
