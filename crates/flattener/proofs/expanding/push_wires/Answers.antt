use Rattle.std.proofs.Common.{◌≡◌, length, ap, arith}
use Rattle.flattener.specs.inner.Expanding.{behind}
use Rattle.flattener.proofs.Lists.{short_at}
use Rattle.flattener.proofs.expanding.push_wires.Goals as goal

pub with_prefix-requires-clause-short : goal.with_prefix-requires-clause-short
with_prefix-requires-clause-short c =
    let name = c.as_slice.result.now in
    let e : length (behind c.loop-name.prefix.items name) ≡ length (behind c.args.prefix.now.items name) = ap (λ ps. length (behind ps name)) c.loop-name.invariant.same in
    let h = short_at (behind c.args.prefix.now.items) c.args.names.now c.loop-name.name-index _ _ c.loop-name-test.true c.requires c.name-item.is c.as_slice.ensures.bytes in
    omega arith
