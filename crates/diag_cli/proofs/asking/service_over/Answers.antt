use Rattle.std.proofs.Common.{ap, sym, ◌∙◌}
use Rattle.nnf_ask.specs.Asking.{asked_names}
use Rattle.diag_cli.proofs.AskedServices.{asked_answers}
use Rattle.diag_cli.proofs.asking.service_over.Goals as goal

pub returns-in-Ok-over-clause-ready : goal.returns-in-Ok-over-clause-ready
returns-in-Ok-over-clause-ready c =
    asked_answers c.args.health c.args.sessions c.args.graph _ _ c.in_ok-costs.costs.items (ap (asked_names c.args.health) (sym c.vars.ensures.vars) ∙ c.in-Ok.ensures.names)
    c.in_ok-costs.ensures.costs _ c.in-Ok-over.ensures
