use Rattle.part_sets.proofs.SetBits.{AreAdded}
use Rattle.level_lister.specs.inner.CostSets.{has_shifted}
use Rattle.level_lister.proofs.sets.add_shifted.Given as goal

-- the words before the place have the costs of the other set
abbrev pub invariant-loop-i : goal.invariant-loop-i
invariant-loop-i l = AreAdded l.initial.set (has_shifted l.other l.more) l.i l.set
