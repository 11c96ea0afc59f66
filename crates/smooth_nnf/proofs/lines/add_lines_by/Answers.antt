use Rattle.std.proofs.Common.{◌∙◌, refl, sym, ap, length, arith}
use Rattle.state_rules.specs.Graphs.{Graph, node_at}
use Rattle.nnf_text.proofs.Extended.{extends_same}
use Rattle.part_sets.proofs.Children.{literal-fits}
use Rattle.smooth_nnf.specs.Layouts.{lines_by}
use Rattle.smooth_nnf.specs.inner.Drawings.{shown}
use Rattle.smooth_nnf.specs.inner.Texts.{lines_text}
use Rattle.smooth_nnf.proofs.LineLemmas.{kids-inside, and-text}
use Rattle.smooth_nnf.proofs.lines.add_lines_by.Goals as goal

pub add_literal-requires-clause-var : goal.add_literal-requires-clause-var
add_literal-requires-clause-var g c =
    (literal-fits _ c.args.node _ c.what.ensures.valid (omega (arith, ap (λ (x : Graph). length x.nodes) c.graph-graph.ensures.graph, c.requires.node)) refl c.in-Literal.var c.in-Literal.positive (sym c.in-Literal.is ∙ c.what.ensures.what)).0

pub add_and-requires : goal.add_and-requires
add_and-requires g c = kids-inside c.args.drawing.now.graph c.parts-parts.ensures.whole.valid c.args.node c.requires.node c.args.kids.now c.requires.kids

pub invariant_of-or_node-clause-kids_inside : goal.invariant_of-or_node-clause-kids_inside
invariant_of-or_node-clause-kids_inside g c = kids-inside c.args.drawing.now.graph c.parts-parts.ensures.whole.valid c.args.node c.requires.node c.args.kids.now c.requires.kids

pub returns-in-And : goal.returns-in-And
returns-in-And g c =
    let d = c.args.drawing.now in
    let what = sym c.in-And.is ∙ c.what.ensures.what ∙ ap (λ (x : Graph). (node_at x.nodes c.args.node).what) c.graph-graph.ensures.graph in
    extends_same _ _ _ _ _ _ c.add_and.ensures (and-text d c.args.kids.now ∙ ap (λ w. lines_text (lines_by (shown d) c.args.node c.args.cost w c.args.kids.now)) what)
