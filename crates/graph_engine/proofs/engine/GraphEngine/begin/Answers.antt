use Rattle.std.proofs.Common.{◌∙◌, List, Bool, get_or, ap}
use Rattle.conditioner.specs.Evidence.{bits_of}
use Rattle.engines.specs.Answers.{least_of, diagnoses_of}
use Rattle.graph_engine.specs.Served.{OnGraph, about_of}
use Rattle.graph_engine.proofs.Asked.{least-asked, diagnoses-asked}
use Rattle.graph_engine.proofs.NextStates.{is_first}
use Rattle.graph_engine.proofs.engine.GraphEngine.begin.Goals as goal

pub returns-clause-least : goal.returns-clause-least
returns-clause-least g c =
    c.first.ensures.least
    ∙ least-asked c.self.inside.basis c.self.inside.memory.known.items c.graph.ensures.basis c.self.invariant.evidence _ _ _ c.graph.ensures.graph c.deref_mut.ensures.value c.costs.ensures
    ∙ ap (λ (e : OnGraph). least_of (about_of e)) c.self.view_is

pub returns-clause-first : goal.returns-clause-first
returns-clause-first g c =
    let old = bits_of c.fill.new.self in
    let ds = diagnoses-asked c.self.inside.basis c.self.inside.memory.known.items c.graph.ensures.basis c.self.invariant.evidence _ _ _ c.graph.ensures.graph c.deref_mut.ensures.value c.costs.ensures
    ∙ ap (λ (e : OnGraph). diagnoses_of (about_of e)) c.self.view_is in
    is_first _ old _ (c.first.ensures.first ∙ ap (λ (xs : List (List Bool)). get_or xs 0 old) ds)
