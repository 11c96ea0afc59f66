use Rattle.fault_graph.specs.inner.Marks.{AreMarks}
use Rattle.fault_graph.proofs.marking.mark.Given as goal

-- the nodes from `at` on are done
abbrev pub invariant-loop-at : goal.invariant-loop-at
invariant-loop-at l = AreMarks l.graph.nodes l.values l.places l.at
