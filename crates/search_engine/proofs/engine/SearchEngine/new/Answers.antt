use Rattle.std.proofs.Common.{◌∙◌, ℕ, replicate, ap}
use Rattle.search_engine.proofs.Asked.{begun}
use Rattle.search_engine.proofs.engine.SearchEngine.new.Goals as goal

pub invariant_of-result : goal.invariant_of-result
invariant_of-result c =
    begun _ _ c.args.costs.now c.args.cnf.now _ c.requires.parts_rise c.requires.wires_rise c.requires.few_parts c.requires.few_wires c.requires.costs c.requires.vars
    _ c.in_ok-search.ensures _ (c.in_ok-known.ensures ∙ ap (λ (n : ℕ). replicate n 0) c.vars.ensures.vars)
