use Rattle.std.proofs.Common.{◌∙◌, ap}
use Rattle.std.specs.Prelude.{is_some}
use Rattle.search_engine.proofs.Asked.{least-asked}
use Rattle.search_engine.proofs.engine.SearchEngineEngine.is_consistent.Goals as goal

pub returns-clause-some : goal.returns-clause-some
returns-clause-some c = c.is_some.ensures ∙ ap is_some (c.least.ensures.least ∙ least-asked _ _ c.self.inside.search _ _ c.self.invariant _ c.self.view_is)
