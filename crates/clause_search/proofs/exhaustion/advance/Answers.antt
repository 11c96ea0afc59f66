use Rattle.std.proofs.Common.{◌+◌, arith}
use Rattle.std.proofs.lemmas.Grind.{elements}
use Rattle.clause_search.proofs.Exhausted.{number-lowered, power-more}
use Rattle.clause_search.proofs.exhaustion.advance.Goals as goal

pub loop-at-preserved : goal.loop-at-preserved
loop-at-preserved c = grind (arith, c.loop-at.invariant, number-lowered c.loop-at.bits c.loop-at.at, power-more c.loop-at.at)
