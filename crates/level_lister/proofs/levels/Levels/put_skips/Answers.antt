use Rattle.std.proofs.Common.{◌≡◌, false, ℕ, List, Option, Some, None, length, get_or, is_some, not, refl, sym, ◌∙◌, ap, subst, arith}
use Rattle.conditioner.specs.Models.{models, least_under}
use Rattle.minimiser.specs.Stored.{AreLeastCosts}
use Rattle.state_rules.proofs.Diagnoses.{least-none}
use Rattle.level_lister.specs.inner.Skips.{skip_of}
use Rattle.level_lister.proofs.Skips.{enough}
use Rattle.level_lister.proofs.levels.Levels.put_skips.Goals as goal

none_from : (o : Option ℕ) → is_some o ≡ false → o ≡ None
none_from None e = refl
none_from (Some n) e = absurd (cc)

pub returns-then-is_none-clause-none : goal.returns-then-is_none-clause-none
returns-then-is_none-clause-none g c e =
    let graph = c.args.graph.now in
    let evidence = c.args.evidence.now in
    let costs = c.args.self.now.costs in
    least-none costs (models graph evidence (length costs)) (ap (λ cs. least_under graph evidence cs) (sym c.costs.ensures) ∙ sym c.least.ensures.least ∙ none_from c.least.result (c.is_none.ensures ∙ ap not c.if-is_none.true))

pub returns-clause-enough : goal.returns-clause-enough
returns-clause-enough g c e =
    let evidence = c.args.evidence.now in
    let costs = c.args.self.now.costs in
    let least : AreLeastCosts c.args.graph.now evidence costs c.least.new.values = subst (λ (cs : List ℕ). AreLeastCosts c.args.graph.now evidence cs c.least.new.values) c.costs.ensures c.least.ensures.values in
    let outside = c.put_outside_costs.new.outside in
    enough c.args.graph.now evidence costs c.len.ensures.valid c.least.new.values outside c.mark_dear.new.outside c.args.self.now.top least c.put_outside_costs.ensures
    (λ k h. c.mark_dear.ensures k (omega (arith, c.put_outside_costs.auto.outside, c.requires.skips)) ∙ ap (λ top. skip_of top (get_or c.least.new.values k 0) (get_or outside k 0)) c.top.ensures)
    c.requires.long c.requires.graph.parts
