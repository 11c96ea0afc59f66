use Rattle.std.proofs.Common.{rules}
use Rattle.std.proofs.lemmas.Fn.{always_returns_same}
use Rattle.session_table.specs.declared.in_order.Open.{Open}
use Rattle.session_table.proofs.Lookups.{order}
use Rattle.session_table.proofs.SessionSearch.{searched}
use Rattle.session_table.proofs.in_order.find_place.Goals as goal

pub returns : goal.returns
returns c =
    let facts = c.binary_search_by.ensures in
    let by_name = facts.position (λ (s : Open). order s.name c.args.name.now) (always_returns_same _ _ _ (λ a r f called. search rules)) in
    let so = searched c.args.sessions.now c.requires c.args.name.now c.binary_search_by.result facts.bound by_name in
    record { found = so.0; gap = so.1 }
