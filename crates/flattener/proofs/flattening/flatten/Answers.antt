use Rattle.std.proofs.Common.{◌≡◌, List, map, None, ap, sym, ◌∙◌}
use Rattle.component_lang.specs.declared.design.Shape.{Shape}
use Rattle.flattener.specs.Flat.{flat_device}
use Rattle.flattener.specs.inner.Counting.{counts_of_design, refusal}
use Rattle.flattener.proofs.Totals.{unless_refused, flattened-by_counts}
use Rattle.flattener.proofs.Built.{device_made, only_memory, told-refusal}
use Rattle.flattener.proofs.flattening.flatten.Goals as goal

pub returns-in-Some : goal.returns-in-Some
returns-in-Some c =
    let design = c.args.design.now in
    let over = ap refusal (sym c.in_ok-counts.ensures.counts) ∙ sym c.refusal.ensures ∙ c.in-Some.is in
    told-refusal design c.in-Some.error (flattened-by_counts design c.of_design.ensures.valid ∙ ap (unless_refused (flat_device design)) over)

pub returns-in-Ok : goal.returns-in-Ok
returns-in-Ok c =
    let design = c.args.design.now in
    let none : refusal (counts_of_design design) ≡ None = ap refusal (sym c.in_ok-counts.ensures.counts) ∙ sym c.refusal.ensures ∙ c.in_default.is in
    let are = c.in_ok-tables.ensures ∙ ap (λ (types : List Shape). map (λ (s : Shape). s.table) types) c.types.ensures in
    let flat = c.in_ok-parts.field-0 in
    device_made design c.of_design.ensures.valid none flat.parts.items flat.wires.items c.in_ok-parts.ensures
    c.in_ok-tables.tables.items are c.in-Ok.device c.in-Ok.ensures.built

pub unreachable-requires : goal.unreachable-requires
unreachable-requires c =
    let design = c.args.design.now in
    let none : refusal (counts_of_design design) ≡ None = ap refusal (sym c.in_ok-counts.ensures.counts) ∙ sym c.refusal.ensures ∙ c.in_default.is in
    let are = c.in_ok-tables.ensures ∙ ap (λ (types : List Shape). map (λ (s : Shape). s.table) types) c.types.ensures in
    let flat = c.in_ok-parts.field-0 in
    c.in_default-error.not-Memory (only_memory design c.of_design.ensures.valid none flat.parts.items flat.wires.items c.in_ok-parts.ensures
    c.in_ok-tables.tables.items are c.in-Err.error c.in-Err.ensures.built)
