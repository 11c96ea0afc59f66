use Rattle.std.proofs.Common.{◌∙◌}
use Rattle.conditioner.specs.Evidence.{bits_of}
use Rattle.search_engine.proofs.Asked.{first-asked, least-asked}
use Rattle.search_engine.proofs.engine.SearchEngineEngine.first.Goals as goal

pub returns-clause-least : goal.returns-clause-least
returns-clause-least c = c.first.ensures.least ∙ least-asked _ _ c.self.inside.search _ _ c.self.invariant _ c.self.view_is

pub returns-clause-first : goal.returns-clause-first
returns-clause-first c = first-asked _ _ c.self.inside.search _ _ c.self.invariant _ c.self.view_is _ (bits_of c.fill.new.self) c.first.ensures.first
