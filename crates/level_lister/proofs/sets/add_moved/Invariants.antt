use Rattle.std.proofs.Common.{◌+◌, ◌*◌}
use Rattle.level_lister.specs.inner.CostSets.{AreSums}
use Rattle.level_lister.proofs.sets.add_moved.Given as goal

-- the sums with the numbers before this bit are there
abbrev pub invariant-loop-bit : goal.invariant-loop-bit
invariant-loop-bit l = AreSums l.other l.moves (32 * l.i + l.bit) l.set
