use Rattle.std.proofs.Common.{arith}
use Rattle.std.proofs.lemmas.Grind.{common_steps}
use Rattle.clause_answers.proofs.Answered.{new-oracle}
use Rattle.clause_answers.proofs.oracle.Oracle.new.Goals as goal

pub invariant_of-result-2 : goal.invariant_of-result-2
invariant_of-result-2 c = new-oracle _ _ c.args.costs.now _ _ _ _ _ c.in_ok-new.ensures c.in_ok-from_slice.ensures.items c.requires.parts c.requires.total
    (grind (arith, common_steps)) (grind (arith, common_steps)) c.in_ok-weights.ensures (grind (arith, common_steps))
