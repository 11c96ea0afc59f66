use Rattle.level_lister.specs.inner.Pairs.{IsSpread}
use Rattle.level_lister.proofs.pairs.spread.Given as goal

-- the numbers moved by those before this one are there
abbrev pub invariant-loop-times : goal.invariant-loop-times
invariant-loop-times l = IsSpread l.left l.right l.step l.times l.set
