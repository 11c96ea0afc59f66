use Rattle.std.proofs.Common.{sym, ap}
use Rattle.state_rules.specs.Graphs.{Node}
use Rattle.smooth_nnf.proofs.LineLemmas.{kids-inside}
use Rattle.smooth_nnf.proofs.edges.edges_by.Goals as goal

pub invariant_of-or_node-clause-kids_inside : goal.invariant_of-or_node-clause-kids_inside
invariant_of-or_node-clause-kids_inside c = kids-inside c.args.drawing.now.graph c.parts-parts.ensures.whole.valid c.args.node c.requires.node c.args.kids.now (sym (ap (λ (n : Node). n.kids) c.requires.is))
