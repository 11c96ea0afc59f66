use Rattle.std.proofs.Common.{arith}
use Rattle.minimiser.proofs.SpreadMarks.{some-least, flagged}
use Rattle.minimiser.proofs.suspects.find_suspects.Goals as goal

pub returns-clause-suspects : goal.returns-clause-suspects
returns-clause-suspects c = flagged _ _ _ c.len-nodes.ensures.valid c.requires.long c.requires.parts c.requires.total _ (some-least _ c.requires.some).1 _ c.requires.values _ c.sweep.ensures c.requires.dear _ _ (omega arith) (omega arith) c.loop-at.invariant
