use Rattle.std.proofs.Common.{sym, ap, ◌∙◌}
use Rattle.smooth_nnf.specs.inner.Drawings.{Drawing}
use Rattle.smooth_nnf.proofs.WordParts.{over-all}
use Rattle.smooth_nnf.proofs.drawing.Drawing.over_count.Goals as goal

pub returns-in-None-clause-count : goal.returns-in-None-clause-count
returns-in-None-clause-count c = ap (λ (s : Drawing). s.parts) c.self.view_is ∙ sym (over-all c.args.self.now.graph.nodes c.args.over c.args.self.now.parts c.in-None.is)
