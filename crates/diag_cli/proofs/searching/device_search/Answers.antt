use Rattle.session_core.specs.Services.{shown_by}
use Rattle.search_engine.specs.Searched.{about_of}
use Rattle.diag_cli.specs.Behaviours.{searched_device}
use Rattle.diag_cli.proofs.Services.{service_for}
use Rattle.diag_cli.proofs.searching.device_search.Goals as goal

pub returns-clause-behaviour : goal.returns-clause-behaviour
returns-clause-behaviour c =
    let made = c.device_searched.ensures in
    let options = c.args.options in
    rw c.in_ok-device.ensures (service_for (searched_device options) options.sessions _ (shown_by about_of) (λ service. c.in_ok-device.device) c.device_searched.result made.encoded made.service)
