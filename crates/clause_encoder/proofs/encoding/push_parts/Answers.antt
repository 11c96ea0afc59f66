use Rattle.std.proofs.Common.{length, ap, ◌∙◌, refl, arith}
use Rattle.clause_encoder.proofs.WrittenClauses.{part-written, inner-next, small, low}
use Rattle.clause_encoder.proofs.encoding.push_parts.Goals as goal

pub push_part-requires-clause-ports : goal.push_part-requires-clause-ports
push_part-requires-clause-ports c =
    let wires = c.as_slice.result.now in
    small (length c.parts-parts.result.now) wires c.deref.result.now c.set_ports.new.ports.items c.deref.ensures.value c.in_ok-set_ports.ensures (omega (arith, ap length c.parts-parts.ensures.parts, c.parts-parts.ensures.valid.few_parts))
    (low c.args.device.now c.parts-parts.result.now c.loop-place.place c.index-parts-place.result wires c.parts-parts.ensures.valid c.parts-parts.ensures.parts (omega arith) c.index-parts-place.is c.as_slice.ensures)

pub loop-place-preserved : goal.loop-place-preserved
loop-place-preserved c = record {
  clauses = part-written c.args.device.now c.loop-place.place c.parts-parts.result.now c.index-parts-place.result c.tables.result.now _ c.loop-place.inner c.deref.result.now c.as_slice.result.now c.loop-place.writer.clauses c.push_part.new.writer.clauses _
      c.parts-parts.ensures.parts (omega arith) c.index-parts-place.is c.tables.ensures.tables refl c.loop-place.invariant.inner (c.deref.ensures.value ∙ c.in_ok-set_ports.ensures) c.as_slice.ensures c.in_ok-inner.ensures.clauses c.loop-place.invariant.clauses;
  inner = inner-next c.args.device.now c.loop-place.place c.parts-parts.result.now c.index-parts-place.result c.loop-place.inner c.in_ok-inner.inner c.deref.result.now c.as_slice.result.now
      c.parts-parts.ensures.parts (omega arith) c.index-parts-place.is c.loop-place.invariant.inner (c.deref.ensures.value ∙ c.in_ok-set_ports.ensures) c.as_slice.ensures c.in_ok-inner.ensures.inner;
  few = omega (arith, c.in_ok-inner.ensures.few, c.loop-place.invariant.few);
}
