use Rattle.std.proofs.Common.{get_or, refl, sym, ◌∙◌, ap, arith}
use Rattle.minimiser.specs.Costs.{part_cost}
use Rattle.level_lister.proofs.Children.{literal_set, skipped_set}
use Rattle.level_lister.proofs.search.Asked.put_set.Goals as goal

pub returns-in-Literal : goal.returns-in-Literal
returns-in-Literal c = literal_set c.args.self.now.graph.now c.args.at _ c.args.self.now.valid c.requires.at refl c.args.self.now.skips.now c.if-self-at-ne0.false c.args.self.now.evidence.now c.args.self.now.levels.now.costs c.in-Literal.var c.part_cost.result c.in-Literal.positive c.leaf.result c.put_literal.new.set
    c.in-Literal.ensures.what c.leaf.ensures (c.part_cost.ensures ∙ ap (λ cs. part_cost cs c.in-Literal.var) c.costs.ensures) c.put_literal.ensures.ruled_out (λ p n h. c.put_literal.ensures.allowed p n (omega arith))

pub returns-then-lacking-at-eq0 : goal.returns-then-lacking-at-eq0
returns-then-lacking-at-eq0 c = c.put_full.ensures.all c.args.self.now.skips.now c.args.self.now.evidence.now c.args.self.now.levels.now.costs c.if-self-at-ne0.false
    ((c.args.self.now.for_graph.lacking.nodes c.args.at c.requires.at).0 (sym (ap (λ xs. get_or xs c.args.at 0) c.lacking.ensures) ∙ c.if-lacking-at-eq0.true) (sym c.in-Or.ensures.what)) c.requires.earlier

pub returns-then-self-at-ne0 : goal.returns-then-self-at-ne0
returns-then-self-at-ne0 c = skipped_set c.args.self.now.graph.now c.args.self.now.skips.now c.args.self.now.evidence.now c.args.self.now.levels.now.costs c.args.at c.clear.new.set c.args.self.now.valid c.requires.at c.if-self-at-ne0.true c.clear.ensures

pub returns-in-And : goal.returns-in-And
returns-in-And c = c.put_and.ensures c.args.self.now.evidence.now c.args.self.now.levels.now.costs c.requires.earlier
