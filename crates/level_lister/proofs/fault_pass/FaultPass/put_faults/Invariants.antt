use Rattle.std.proofs.Common.{◌≡◌, length}
use Rattle.level_lister.specs.Listing.{cost_words}
use Rattle.level_lister.specs.inner.FaultSets.{AreNodeFaults}
use Rattle.level_lister.proofs.fault_pass.FaultPass.put_faults.Given as goal

-- the sets of the nodes before this one are there
abbrev pub invariant-loop-at : goal.invariant-loop-at
invariant-loop-at l = record {
  faults : AreNodeFaults l.self.graph.now l.self.skips.now l.self.evidence.now l.self.levels.now.costs l.self.groups (cost_words l.self.levels.now.top) l.faults l.at;
  end : l.at-end ≡ length l.self.graph.now.nodes;
}
