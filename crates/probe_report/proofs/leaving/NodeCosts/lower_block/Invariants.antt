use Rattle.std.proofs.Common.{ℕ, ◌+◌, ◌<◌}
use Rattle.probe_report.specs.inner.Outside.{AtChild}
use Rattle.probe_report.specs.inner.Leaving.{IsMarked, LowersBlock}
use Rattle.probe_report.proofs.leaving.NodeCosts.lower_block.Given as goal

-- the nodes so far
abbrev pub invariant-loop-at : goal.invariant-loop-at
invariant-loop-at l = record {
  marked : IsMarked l.self.graph.now.nodes l.first l.at l.marks;
  lowers : LowersBlock l.start (λ i cost. (node : ℕ) × (node < l.at) × AtChild l.self.graph.now.nodes l.self.values.now l.self.outside.now (l.parts + i + 1) node cost) l.fn.list l.list;
}
