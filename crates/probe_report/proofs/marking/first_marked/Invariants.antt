use Rattle.probe_report.proofs.Marks.{NoneMarked}
use Rattle.probe_report.proofs.marking.first_marked.Given as goal

-- the nodes so far
abbrev pub invariant-loop-at : goal.invariant-loop-at
invariant-loop-at l = NoneMarked l.graph.nodes l.first l.at
