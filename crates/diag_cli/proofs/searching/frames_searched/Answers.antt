use Rattle.std.proofs.Common.{◌∙◌, length, ap}
use Rattle.state_rules.specs.Ranking.{plain_costs}
use Rattle.session_core.specs.Services.{shown_by}
use Rattle.search_engine.specs.Searched.{about_of}
use Rattle.diag_cli.proofs.ServedSearches.{frames_serve}
use Rattle.diag_cli.proofs.searching.frames_searched.Goals as goal

pub returns-clause-service : goal.returns-clause-service
returns-clause-service c =
    frames_serve c.args.options c.args.seq.now c.args.frames c.in-Ok.made c.in-Ok.ensures.unrolled c.in-Ok.ensures.valid c.in-Ok.ensures.describes (shown_by about_of) c.search_over.result _ _ _
    c.into_vec.ensures c.into_vec-2.ensures (c.deref.ensures.value ∙ c.in_ok-costs.ensures.costs ∙ ap (λ ps. plain_costs (length ps)) c.parts-count.ensures.parts) c.search_over.ensures.shown
