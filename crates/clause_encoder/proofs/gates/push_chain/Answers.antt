use Rattle.std.proofs.Common.{length, refl, arith}
use Rattle.clause_encoder.proofs.WrittenClauses.{step-written}
use Rattle.clause_encoder.proofs.PartClauses.{takes-few}
use Rattle.clause_encoder.proofs.gates.push_chain.Goals as goal

pub loop-input-preserved : goal.loop-input-preserved
loop-input-preserved c = record {
  clauses = step-written c.args.gate _ c.args.health _ c.args.output c.loop-input.next c.loop-input.before _ c.loop-input.input-index c.loop-input.writer.clauses c.push_step.new.writer.clauses _
      (omega arith) refl c.in_ok-push_step.ensures c.loop-input.invariant.clauses;
  next = omega (arith, c.loop-input.invariant.next);
  before = omega (arith, takes-few c.args.gate (length c.args.inputs.now) c.requires.arity, c.loop-input.invariant.next, c.requires.inner);
}
