use Rattle.minimiser.specs.inner.Outside.{AreOutsideCosts}
use Rattle.minimiser.proofs.outside.put_outside_costs.Given as goal

-- the nodes from `at` on are done
abbrev pub invariant-loop-at : goal.invariant-loop-at
invariant-loop-at l = AreOutsideCosts l.graph.nodes l.values l.outside l.at
