use Rattle.session_rules.specs.GraphSystems.{system_of}
use Rattle.nnf_ask.specs.Asking.{asked_subject}
use Rattle.session_core.specs.Services.{shown_by}
use Rattle.graph_engine.specs.Served.{about_of}
use Rattle.diag_cli.proofs.Services.{service_for}
use Rattle.diag_cli.proofs.asking.graph_service.Goals as goal

pub returns-clause-behaviour : goal.returns-clause-behaviour
returns-clause-behaviour c =
    rw c.in_ok-graph.ensures.graph (service_for system_of c.args.sessions _ (shown_by about_of) (λ service. asked_subject c.args.health c.in_ok-graph.graph) c.service_over.result c.service_over.ensures.asked c.service_over.ensures.ready)
