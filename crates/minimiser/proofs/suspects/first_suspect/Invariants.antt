use Rattle.minimiser.specs.inner.Swept.{suspect_at}
use Rattle.minimiser.proofs.SpreadMarks.{IsLeastSuspect}
use Rattle.minimiser.proofs.suspects.first_suspect.Given as goal

abbrev pub invariant-loop-at : goal.invariant-loop-at
invariant-loop-at l = IsLeastSuspect (suspect_at l.graph.nodes l.evidence l.parts l.values) l.parts l.at l.first
