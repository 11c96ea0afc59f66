use Rattle.std.proofs.Common.{sym, ◌∙◌}
use Rattle.level_lister.proofs.search.Asked.reaches.Goals as goal

pub returns-clause-reached : goal.returns-clause-reached
returns-clause-reached g c =
    let is = c.put_costs.ensures c.args.cost c.requires.cost in
    (λ t. is.0 (sym c.has_number.ensures ∙ t), λ has. c.has_number.ensures ∙ is.1 has)
