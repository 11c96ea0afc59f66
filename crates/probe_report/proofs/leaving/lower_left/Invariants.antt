use Rattle.std.proofs.Common.{take}
use Rattle.probe_report.specs.inner.Leaving.{LeftChild, LowersBlock}
use Rattle.probe_report.proofs.leaving.lower_left.Given as goal

-- the children so far
abbrev pub invariant-loop-k : goal.invariant-loop-k
invariant-loop-k l = LowersBlock l.start (λ i. LeftChild l.values l.marks (take l.k-index l.kids) l.mark l.outside l.start i) l.fn.list l.list
