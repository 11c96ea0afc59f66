use Rattle.std.proofs.Common.{◌∙◌, ap}
use Rattle.std.specs.Prelude.{is_some}
use Rattle.engines.specs.Answers.{least_of}
use Rattle.graph_engine.specs.Served.{OnGraph, about_of}
use Rattle.graph_engine.proofs.Asked.{least-asked}
use Rattle.graph_engine.proofs.engine.GraphEngine.has_states.Goals as goal

pub returns-clause-some : goal.returns-clause-some
returns-clause-some g c =
    c.prepare.ensures.some
    ∙ ap is_some (least-asked c.self.inside.basis c.self.inside.memory.known.items c.graph.ensures.basis c.self.invariant.evidence _ _ _ c.graph.ensures.graph c.deref.ensures.value c.costs.ensures)
    ∙ ap (λ (e : OnGraph). is_some (least_of (about_of e))) c.self.view_is
