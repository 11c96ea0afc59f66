use Rattle.std.proofs.Common.{◌≡◌, sym, ap, ◌∙◌, rules}
use Rattle.std.specs.Result.{result_ok}
use Rattle.std.proofs.lemmas.Fn.{always_returns_same}
use Rattle.std.proofs.lemmas.List.{map-id}
use Rattle.device_model.specs.Devices.{place_of}
use Rattle.device_model.proofs.SortedLists.{itself, Rises-from_names_rise}
use Rattle.device_model.proofs.NameSearch.{order, looked_up}
use Rattle.device_model.proofs.device.place_of.Goals as goal
use Rattle.device_model.proofs.device.place_of.Goals.{After-binary_search_by}

found : (c : After-binary_search_by) → result_ok c.binary_search_by.result ≡ place_of c.args.name.now c.args.names.now
found c =
    let facts = c.binary_search_by.ensures in
    let by_name = facts.position (order itself c.args.name.now) (always_returns_same _ _ _ (λ a r f called. search rules)) in
    looked_up itself c.args.names.now c.args.name.now c.binary_search_by.result (Rises-from_names_rise c.args.names.now c.requires.rising) facts.bound by_name
    ∙ ap (place_of c.args.name.now) (map-id c.args.names.now)

pub returns-in-Ok : goal.returns-in-Ok
returns-in-Ok c = ap result_ok (sym c.in-Ok.is) ∙ found c.before

pub returns-in-Err : goal.returns-in-Err
returns-in-Err c = ap result_ok (sym c.in-Err.is) ∙ found c.before
