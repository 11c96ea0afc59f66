use Rattle.std.proofs.Common.{◌∙◌, ◌+◌, ℕ, false, true, ap}
use Rattle.search_engine.proofs.Asked.{seen-asked}
use Rattle.search_engine.proofs.engine.SearchEngineEngine.probe.Goals as goal

pub returns-clause-zero : goal.returns-clause-zero
returns-clause-zero c =
    c.probe.ensures.zero ∙ seen-asked _ _ c.self.inside.search _ _ c.self.invariant _ c.self.view_is c.args.wire _ false c.requires (ap (λ (n : ℕ). n + c.args.wire + 1) (c.parts.ensures.parts ∙ c.self.invariant.costs))

pub returns-clause-one : goal.returns-clause-one
returns-clause-one c =
    c.probe.ensures.one ∙ seen-asked _ _ c.self.inside.search _ _ c.self.invariant _ c.self.view_is c.args.wire _ true c.requires (ap (λ (n : ℕ). n + c.args.wire + 1) (c.parts.ensures.parts ∙ c.self.invariant.costs))
