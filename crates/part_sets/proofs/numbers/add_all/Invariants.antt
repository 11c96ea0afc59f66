use Rattle.part_sets.specs.Numbers.{has_number}
use Rattle.part_sets.proofs.SetBits.{AreAdded}
use Rattle.part_sets.proofs.numbers.add_all.Given as goal

-- the words before the place have got the numbers of the other set
abbrev pub invariant-loop-i : goal.invariant-loop-i
invariant-loop-i l = AreAdded l.initial.set (has_number l.other) l.i l.set
