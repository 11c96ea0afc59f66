use Rattle.std.proofs.Common.{get_or, refl, sym, ◌∙◌, ap, subst}
use Rattle.level_lister.specs.inner.FaultSets.{in_first, IsFaultSet, AreNodeFaults}
use Rattle.level_lister.proofs.Children.{literal_at}
use Rattle.level_lister.proofs.fault_pass.FaultPass.put_node.Goals as goal

pub returns-in-Literal : goal.returns-in-Literal
returns-in-Literal c =
    let evidence = c.args.self.now.evidence.now in
    let costs = c.args.self.now.levels.now.costs in
    literal_at c.args.self.now.graph.now c.args.at _ c.args.self.now.valid c.requires.at refl c.args.self.now.skips.now c.if-self-at-ne0.false (λ t m. IsFaultSet evidence costs (in_first evidence costs c.args.self.now.groups) t m c.put_literal_faults.new.set)
    c.in-Literal.var c.in-Literal.positive c.in-Literal.ensures.what c.put_literal_faults.ensures

pub returns-then-lacking-at-eq0 : goal.returns-then-lacking-at-eq0
returns-then-lacking-at-eq0 c =
    let evidence = c.args.self.now.evidence.now in
    let costs = c.args.self.now.levels.now.costs in
    let groups = c.args.self.now.groups in
    c.put_full.ensures.faulty c.args.self.now.skips.now evidence costs groups c.if-self-at-ne0.false
    ((c.args.self.now.for_graph.lacking.nodes c.args.at c.requires.at).0 (sym (ap (λ xs. get_or xs c.args.at 0) c.lacking.ensures) ∙ c.if-lacking-at-eq0.true) (sym c.in-Or.ensures.what))
    (subst (λ n. AreNodeFaults c.args.self.now.graph.now c.args.self.now.skips.now evidence costs groups n c.args.earlier.now c.args.at) (sym c.requires.set) c.requires.earlier)
