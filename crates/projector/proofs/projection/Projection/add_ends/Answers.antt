use Rattle.std.proofs.Common.{◌++◌, take, ap, ◌∙◌, arith}
use Rattle.std.specs.List.{flat_map, enumerate_from}
use Rattle.text_rules.specs.Tokens.{spaced}
use Rattle.nnf_text.specs.WrittenGraphs.{node_words}
use Rattle.nnf_text.proofs.Extended.{extends_three}
use Rattle.conditioner.specs.Evidence.{known}
use Rattle.projector.specs.Projecting.{root_with}
use Rattle.projector.specs.inner.Lines.{held_line}
use Rattle.projector.proofs.Lines.{root-text}
use Rattle.projector.proofs.projection.Projection.add_ends.Goals as goal

pub returns : goal.returns
returns g c =
    let projection = c.args.self.now in
    let lines = flat_map held_line (enumerate_from 1 (known (take projection.parts projection.evidence.now))) in
    extends_three _ _ _ _ _ _ _ _ _ _ _ _ c.add_held.ensures c.add.ensures c.add_counted_range.ensures
    (ap (λ t. lines ++ t) (root-text c.len.result c.args.held (omega (arith, c.len.ensures.len, c.len.ensures.valid.some)) ∙ ap (λ n. spaced (node_words (root_with n c.args.held))) c.len.ensures.len))
