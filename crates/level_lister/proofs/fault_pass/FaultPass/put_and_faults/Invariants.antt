use Rattle.std.proofs.Common.{map, take}
use Rattle.std.specs.List.{list_all, list_any}
use Rattle.state_rules.specs.Graphs.{is_true, mentions}
use Rattle.level_lister.specs.inner.Skips.{living}
use Rattle.level_lister.specs.inner.FaultSets.{in_first, AreBothSets}
use Rattle.level_lister.proofs.fault_pass.FaultPass.put_and_faults.Given as goal

-- both sets are those of an And node over the children before the place
abbrev pub invariant-loop-child : goal.invariant-loop-child
invariant-loop-child l = AreBothSets l.self.evidence.now l.self.levels.now.costs (in_first l.self.evidence.now l.self.levels.now.costs l.self.groups)
    (λ a. list_all (λ b. b) (map (λ k. is_true (living l.self.graph.now.nodes l.self.skips.now) k a) (take l.child-index l.child-items)))
    (λ v. list_any (λ b. b) (map (mentions l.self.graph.now.nodes v) (take l.child-index l.child-items))) l.all l.set
