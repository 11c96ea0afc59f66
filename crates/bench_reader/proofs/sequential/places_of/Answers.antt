use Rattle.std.proofs.Common.{ap, sym, ◌∙◌, arith}
use Rattle.bench_reader.specs.inner.FlipFlops.{is_kept}
use Rattle.bench_reader.proofs.FlipFlops.{places-taken, places-left}
use Rattle.bench_reader.proofs.sequential.places_of.Goals as goal
use Rattle.bench_reader.proofs.sequential.places_of.Goals.{then-contains+in_ok-push, else-contains}

pub loop-place-preserved : goal.loop-place-preserved
loop-place-preserved c =
    let test = is_kept c.args.outputs.now in
    let at = c.loop-place.place in
    let found = ap test (sym c.as_slice.ensures.bytes) ∙ sym c.contains.ensures in
    elim c.if-contains.branch [
      | then-contains+in_ok-push w ↦ grind (arith, w.in_ok-push.ensures.items, places-taken test c.args.parts.now at _ c.loop-place-test.true c.index-parts-place.is c.loop-place.places.items _ (found ∙ w.if-contains.true) c.loop-place.invariant)
      | else-contains w ↦ grind (arith, places-left test c.args.parts.now at _ c.loop-place-test.true c.index-parts-place.is c.loop-place.places.items _ (found ∙ w.if-contains.false) c.loop-place.invariant)
    ]
