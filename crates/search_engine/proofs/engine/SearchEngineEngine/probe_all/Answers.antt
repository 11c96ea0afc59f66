use Rattle.std.proofs.Common.{◌∙◌, ◌+◌, ℕ, ap, arith}
use Rattle.std.specs.Prelude.{is_some}
use Rattle.search_engine.proofs.Asked.{least-asked, seen-asked}
use Rattle.search_engine.proofs.engine.SearchEngineEngine.probe_all.Goals as goal

pub returns-clause-some : goal.returns-clause-some
returns-clause-some c = c.probe_all.ensures.some ∙ ap is_some (least-asked _ _ c.self.inside.search _ _ c.self.invariant _ c.self.view_is)

pub returns-clause-probed : goal.returns-clause-probed
returns-clause-probed c wire bit within =
    c.probe_all.ensures.probes wire bit (omega (arith, c.requires, within)) ∙ seen-asked _ _ c.self.inside.search _ _ c.self.invariant _ c.self.view_is wire _ bit within (ap (λ (n : ℕ). n + wire + 1) c.self.invariant.costs)
