use Rattle.std.proofs.Common.{length, ap, arith}
use Rattle.clause_encoder.specs.Encoding.{raw_count}
use Rattle.clause_encoder.proofs.ClauseCounts.{part-counted}
use Rattle.clause_encoder.proofs.encoding.raw_count.Goals as goal

pub loop-part-preserved : goal.loop-part-preserved
loop-part-preserved c = record {
  counted = part-counted c.args.device.now c.loop-part.part-index c.parts-part-items.result.now c.part-item.result c.tables.result.now (length c.as_slice.result.now) c.loop-part.count c.part_count-count.result (raw_count c.args.device.now)
      c.parts-part-items.ensures.parts c.loop-part-test.true c.part-item.is c.tables.ensures.tables (ap length c.as_slice.ensures) c.part_count-count.ensures.count c.loop-part.invariant.counted;
  few = omega (arith, c.loop-part.invariant.few, c.part_count-count.ensures.few);
}
