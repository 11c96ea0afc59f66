use Rattle.std.proofs.Common.{arith}
use Rattle.clause_encoder.proofs.WrittenClauses.{passed, bit-written}
use Rattle.clause_encoder.proofs.gates.begin_row.Goals as goal

pub loop-variable-preserved : goal.loop-variable-preserved
loop-variable-preserved c =
    let i = c.loop-variable.variable-index in
    record {
      clauses = cc (c.in_ok-add-2.ensures.clauses, c.loop-variable.invariant.clauses);
      raw = bit-written c.args.variables.now i c.loop-variable.rest c.loop-variable.writer.raw.items c.add-in-loop-variable.new.self.raw.items _ _ (omega arith) (grind (arith, passed, c.requires i 0)) c.in_ok-add-2.ensures.raw c.loop-variable.invariant.raw;
    }
