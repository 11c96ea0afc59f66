use Rattle.std.proofs.Common.{map, ap, sym, ◌∙◌}
use Rattle.text_rules.specs.Names.{is_among}
use Rattle.device_model.specs.Devices.{part_names}
use Rattle.bench_reader.specs.declared.kinds.FlipFlops.TheVariants.{Taken}
use Rattle.bench_reader.specs.SequentialNetlists.{flip_flops, places_where}
use Rattle.bench_reader.specs.inner.Lines.{with_number}
use Rattle.bench_reader.specs.inner.Steps.{device_or_fault}
use Rattle.bench_reader.proofs.FlipFlops.{netlist-short, device_read, is_sequential}
use Rattle.bench_reader.proofs.sequential.read_sequential.Goals as goal

pub returns-clause-read : goal.returns-clause-read
returns-clause-read c =
    let statements = map with_number c.in_ok-statements.statements.items in
    let made = ap (λ ss. device_or_fault (map with_number ss)) (sym c.deref.ensures.value) ∙ c.in_ok-device.ensures in
    is_sequential c.args.text.now statements c.in_ok-statements.ensures c.in_ok-device.device c.in_ok-delayed.delayed made
    (c.in_ok-delayed.ensures ∙ (λ i. places_where (is_among (flip_flops (map with_number (c.deref-2.ensures.value i)))) (part_names (c.parts.ensures.parts i))))

pub returns-clause-short : goal.returns-clause-short
returns-clause-short c =
    let statements = map with_number c.in_ok-statements.statements.items in
    let made = ap (λ ss. device_or_fault (map with_number ss)) (sym c.deref.ensures.value) ∙ c.in_ok-device.ensures in
    netlist-short Taken c.args.text.now c.in_ok-device.device (device_read c.args.text.now statements c.in_ok-statements.ensures c.in_ok-device.device made)
