use Rattle.std.proofs.Common.{◌∙◌, Some, ap}
use Rattle.search_engine.proofs.Asked.{blame-asked, is_priced}
use Rattle.search_engine.proofs.engine.SearchEngineEngine.blame.Goals as goal

pub returns-clause-blame : goal.returns-clause-blame
returns-clause-blame c part within =
    c.blame.ensures.blame part (is_priced _ _ c.self.inside.search _ _ c.self.invariant _ c.self.view_is part within) ∙ ap Some (blame-asked _ _ c.self.inside.search _ _ c.self.invariant _ c.self.view_is part)
