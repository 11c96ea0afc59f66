-- Each result is that of `built`, by the equation of its reason.
use Rattle.std.proofs.Common.{◌≡◌, true, List, ◌++◌, length, take, Some, None, Ok, sym, ap, subst, ◌∙◌, arith}
use Rattle.std.specs.List.{list_all}
use Rattle.std.proofs.lemmas.List.{length-map}
use Rattle.device_model.specs.declared.component.Component.{Component}
use Rattle.device_model.specs.Building.{device_of}
use Rattle.device_model.specs.Devices.{Device, IsDevice, has_arity, has_wires}
use Rattle.device_model.proofs.SortedDevices.{IsDevice-device_of, list_all-from_position}
use Rattle.device_model.proofs.WirePlaces.{length-wires, ports_fit, written_back, assembled}
use Rattle.device_model.proofs.BuildAnswers.{built-arity, built-no_wire, built-device, arity_at}
use Rattle.device_model.proofs.device.Device.build.Goals as goal
use Rattle.device_model.proofs.device.Device.build.Goals.{In_ok-wires-2}

pub returns-in-Some-clause-built : goal.returns-in-Some-clause-built
returns-in-Some-clause-built c =
    built-arity c.args.parts.items c.args.wires.items c.args.tables.items (omega arith) (omega arith) c.in_ok-parts.ensures.distinct c.in_ok-wires.ensures.distinct
    c.in-Some.part (arity_at (Some c.in-Some.part) _ _ _ _ c.deref.ensures.value c.deref-2.ensures.value c.in-Some.ensures.first)

pub returns-in-Some-joined-clause-built : goal.returns-in-Some-joined-clause-built
returns-in-Some-joined-clause-built c =
    built-no_wire c.args.parts.items c.args.wires.items c.args.tables.items (omega arith) (omega arith) c.in_ok-parts.ensures.distinct c.in_ok-wires.ensures.distinct
    (arity_at None _ _ _ _ c.deref.ensures.value c.deref-2.ensures.value c.in_default.ensures.first) c.in-Some-joined.part (grind arith)

pub renumber_all-requires : goal.renumber_all-requires
renumber_all-requires c =
    let joined : list_all (has_wires (length c.args.wires.items)) c.args.parts.items ≡ true = list_all-from_position (has_wires (length c.args.wires.items)) c.args.parts.items (grind arith) in
    let many : length c.deref-5.result.now ≡ length c.args.wires.items = grind (arith, length-wires) in
    grind (arith, ports_fit c.args.parts.items (length c.args.wires.items) (length c.deref-5.result.now) many joined)

made : (c : In_ok-wires-2) (rest : List Component) → ◌≡◌ {A = Device} (record { parts = take c.in_ok-parts.parts.len (c.renumber_all.new.parts ++ rest); wires = c.in_ok-wires-2.wires.items; tables = c.args.tables.items }) (device_of c.args.parts.items c.args.wires.items c.args.tables.items)
made c rest =
    let joined = list_all-from_position (has_wires (length c.args.wires.items)) c.args.parts.items (grind arith) in
    assembled c.args.parts.items c.args.wires.items c.args.tables.items _ c.in_ok-wires-2.wires.items c.deref-4.result.now c.in_ok-places.places.items
    (grind arith) (grind arith) c.in_ok-places.ensures.places joined (grind (arith, length-map, written_back)) (grind arith)

pub of_sorted-requires : goal.of_sorted-requires
of_sorted-requires c =
    let joined = list_all-from_position (has_wires (length c.args.wires.items)) c.args.parts.items (grind arith) in
    let arities = list_all-from_position (has_arity c.args.tables.items) c.args.parts.items (sym (arity_at None _ _ _ _ c.deref.ensures.value c.deref-2.ensures.value c.in_default.ensures.first)) in
    subst IsDevice (sym (made c _)) (IsDevice-device_of c.args.parts.items c.args.wires.items c.args.tables.items (omega arith) (omega arith) arities joined)

pub returns-clause-built : goal.returns-clause-built
returns-clause-built c =
    built-device c.args.parts.items c.args.wires.items c.args.tables.items (omega arith) (omega arith) c.in_ok-parts.ensures.distinct c.in_ok-wires.ensures.distinct
    (arity_at None _ _ _ _ c.deref.ensures.value c.deref-2.ensures.value c.in_default.ensures.first) (grind arith)
    ∙ ap (λ (d : Device). Ok d) (sym (c.of_sorted.ensures ∙ made c.before.before _))
