use Rattle.minimiser.specs.inner.Swept.{IsSwept}
use Rattle.minimiser.proofs.suspects.sweep.Given as goal

-- the nodes from `at` on are done
abbrev pub invariant-loop-at : goal.invariant-loop-at
invariant-loop-at l = IsSwept l.graph.nodes l.fn.values l.values l.at
