use Rattle.std.proofs.Common.{◌≡◌, sym, ap, ◌∙◌, subst, true, rules}
use Rattle.std.specs.Result.{result_ok}
use Rattle.std.proofs.lemmas.Fn.{always_returns_same}
use Rattle.text_rules.specs.Names.{names_rise}
use Rattle.device_model.specs.Devices.{Device, part_names, place_of}
use Rattle.device_model.proofs.SortedDevices.{component_name}
use Rattle.device_model.proofs.SortedLists.{Rises-from_names_rise, Rises-unmap}
use Rattle.device_model.proofs.NameSearch.{order, looked_up}
use Rattle.device_model.proofs.device.Device.find_part.Goals as goal
use Rattle.device_model.proofs.device.Device.find_part.Goals.{After-binary_search_by}

found : (c : After-binary_search_by) → result_ok c.binary_search_by.result ≡ place_of c.args.name.now (part_names c.args.self.now.parts)
found c =
    let facts = c.binary_search_by.ensures in
    let by_name = facts.position (order component_name c.args.name.now) (always_returns_same _ _ _ (λ a r f called. search rules)) in
    let parts = c.deref.result.now in
    let rising : names_rise (part_names parts) ≡ true = subst (λ ps. names_rise (part_names ps) ≡ true) (sym c.deref.ensures.value) c.self.invariant.parts_rise in
    looked_up component_name parts c.args.name.now c.binary_search_by.result (Rises-unmap component_name parts (Rises-from_names_rise (part_names parts) rising)) facts.bound by_name
    ∙ ap (λ ps. place_of c.args.name.now (part_names ps)) (c.deref.ensures.value ∙ ap (λ (d : Device). d.parts) c.self.view_is)

pub returns-in-Ok : goal.returns-in-Ok
returns-in-Ok c = ap result_ok (sym c.in-Ok.is) ∙ found c.before

pub returns-in-Err : goal.returns-in-Err
returns-in-Err c = ap result_ok (sym c.in-Err.is) ∙ found c.before
