use Rattle.std.proofs.Common.{◌≡◌, ◌∙◌, [], length, ap, sym, arith}
use Rattle.std.proofs.lemmas.List.{length-map}
use Rattle.device_model.specs.declared.component.Component.{Component}
use Rattle.graph_engine.specs.Served.{served_system}
use Rattle.diag_cli.proofs.ServedDevices.{device_answers}
use Rattle.diag_cli.proofs.devices.service_over.Goals as goal

pub over-requires : goal.over-requires
over-requires c =
    let many : length c.args.device.parts ≡ length c.in_ok-parts.parts.items = sym (ap length c.in_ok-parts.ensures.parts ∙ length-map c.args.device.parts (λ (part : Component). part.name)) in
    grind (arith, many, c.in_ok-parts.ensures, c.requires)

pub returns-in-Ok-clause-service : goal.returns-in-Ok-clause-service
returns-in-Ok-clause-service c =
    let names = c.in_ok-parts.ensures in
    let options = c.args.options in
    device_answers options c.args.device c.args.graph c.requires.graph _ (c.in-Ok.ensures ∙ (λ i. record {
      system = served_system (record { parts = names.parts i; wires = names.wires i; costs = names.costs i; graph = c.args.graph; extras = options.extras });
      limit = options.sessions;
      table = [];
    }))
