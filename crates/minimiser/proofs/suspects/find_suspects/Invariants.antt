use Rattle.minimiser.specs.inner.Swept.{suspect_at}
use Rattle.minimiser.proofs.SpreadMarks.{AreFlagged}
use Rattle.minimiser.proofs.suspects.find_suspects.Given as goal

abbrev pub invariant-loop-at : goal.invariant-loop-at
invariant-loop-at l = AreFlagged (suspect_at l.graph.nodes l.evidence l.parts l.values) l.state l.at
