use Rattle.std.proofs.Common.{◌≡◌, ◌∙◌, length, ap, sym, arith}
use Rattle.std.proofs.lemmas.List.{length-map}
use Rattle.device_model.specs.declared.component.Component.{Component}
use Rattle.session_core.specs.Services.{shown_by}
use Rattle.search_engine.specs.Searched.{about_of}
use Rattle.diag_cli.proofs.ServedSearches.{device_enough, device_serves}
use Rattle.diag_cli.proofs.searching.device_searched.Goals as goal

pub search_over-requires : goal.search_over-requires
search_over-requires c =
    let many : length c.args.device.parts ≡ length c.in_ok-parts.parts.items = sym (ap length c.in_ok-parts.ensures.parts ∙ length-map c.args.device.parts (λ (part : Component). part.name)) in
    grind (arith, many, c.in_ok-parts.ensures, c.in_ok-cnf.ensures, c.requires, device_enough c.args.options c.args.device c.in_ok-cnf.cnf c.in_ok-cnf.ensures.list)

pub returns-clause-service : goal.returns-clause-service
returns-clause-service c =
    let names = c.in_ok-parts.ensures in
    device_serves c.args.options c.args.device c.in_ok-cnf.cnf c.in_ok-cnf.ensures.list (shown_by about_of) c.search_over.result _ _ _ names.parts names.wires
    (c.deref.ensures.value ∙ names.costs) (ap length c.deref.ensures.value ∙ names.many) c.search_over.ensures.shown
