use Rattle.std.proofs.Common.{◌*◌}
use Rattle.level_lister.specs.inner.CostSets.{AreSums}
use Rattle.level_lister.proofs.sets.put_sums.Given as goal

-- the sums with the numbers of the words before this one are there
abbrev pub invariant-loop-i : goal.invariant-loop-i
invariant-loop-i l = AreSums l.right l.left (32 * l.i) l.set
