use Rattle.std.proofs.Common.{ℕ, List, length, ap, ◌∙◌}
use Rattle.std.specs.List.{range_with_len}
use Rattle.flattener.proofs.Totals.{CanExpand-top, IsFlat-from_Grows}
use Rattle.flattener.proofs.flattening.flat_of.Goals as goal

pub expand-requires-clause-can : goal.expand-requires-clause-can
expand-requires-clause-can c =
    let places = c.deref.ensures.value ∙ c.in_ok-passed.ensures ∙ ap (λ (ns : List (List ℕ)). range_with_len 0 (length ns)) c.top_ports-ports.ensures.ports in
    CanExpand-top c.args.design.now c.top_ports-ports.ensures.valid c.top.result c.top.ensures c.deref.result.now places
    c.in_ok-names_of.field-0.items (c.in_ok-names_of.ensures ∙ c.top_ports-ports.ensures.ports) c.requires

pub returns : goal.returns
returns c =
    let places = c.deref.ensures.value ∙ c.in_ok-passed.ensures ∙ ap (λ (ns : List (List ℕ)). range_with_len 0 (length ns)) c.top_ports-ports.ensures.ports in
    IsFlat-from_Grows c.args.design.now c.top_ports-ports.ensures.valid c.top.result c.top.ensures c.deref.result.now places
    c.in_ok-names_of.field-0.items (c.in_ok-names_of.ensures ∙ c.top_ports-ports.ensures.ports) c.new.result.items _ _ c.new.ensures.items c.in_ok-expand.ensures
