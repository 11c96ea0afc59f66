use Rattle.std.proofs.Common.{◌≡◌, length}
use Rattle.level_lister.specs.inner.NodeSets.{AreNodeSets}
use Rattle.level_lister.proofs.search.Asked.put_sets.Given as goal

-- the sets of the nodes before this one are there
abbrev pub invariant-loop-at : goal.invariant-loop-at
invariant-loop-at l = record {
  sets : AreNodeSets l.self.graph.now l.self.skips.now l.self.evidence.now l.self.levels.now.costs l.size l.sets l.at;
  end : l.at-end ≡ length l.self.graph.now.nodes;
}
