use Rattle.level_lister.proofs.SetBits.{AreMoved}
use Rattle.level_lister.proofs.sets.shift.Given as goal

-- the words from the place on have their new numbers
abbrev pub invariant-loop-i : goal.invariant-loop-i
invariant-loop-i l = AreMoved l.initial.set l.more l.i l.set
