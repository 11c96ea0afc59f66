use Rattle.std.proofs.Common.{◌<◌, ◌^◌, length, arith}
use Rattle.state_rules.specs.Bits.{same_bit, has_odd_ones}
use Rattle.clause_encoder.specs.Encoding.{row_clause, row_bits}
use Rattle.clause_encoder.proofs.RowBits.{odd-row}
use Rattle.clause_encoder.proofs.WrittenClauses.{passed, shifted, row-written}
use Rattle.clause_encoder.proofs.gates.push_parity.Goals as goal

pub loop-row-preserved : goal.loop-row-preserved
loop-row-preserved c =
    let inputs = c.args.inputs.now in
    let lt : c.loop-row.row < 2 ^ length inputs = omega (arith, shifted (length inputs) (omega (arith, c.requires.few)), c.loop-row-test.true) in
    row-written c.loop-row.writer.clauses c.end.new.self.clauses _ (λ r. row_clause c.args.health inputs c.args.output (row_bits r inputs) (same_bit c.args.odd (has_odd_ones (row_bits r inputs)))) c.loop-row.row (2 ^ length inputs) lt
    (grind (arith, passed, odd-row inputs c.loop-row.row lt)) c.loop-row.invariant
