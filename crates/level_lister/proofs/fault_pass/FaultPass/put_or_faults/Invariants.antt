use Rattle.std.proofs.Common.{map, take}
use Rattle.std.specs.List.{list_any}
use Rattle.state_rules.specs.Graphs.{is_true, mentions}
use Rattle.level_lister.specs.inner.Skips.{living}
use Rattle.level_lister.specs.inner.FaultSets.{in_first, IsFaultSet}
use Rattle.level_lister.proofs.fault_pass.FaultPass.put_or_faults.Given as goal

-- the set is that of an Or node over the children before the place, over the variables below all of them
abbrev pub invariant-loop-child : goal.invariant-loop-child
invariant-loop-child l = IsFaultSet l.self.evidence.now l.self.levels.now.costs (in_first l.self.evidence.now l.self.levels.now.costs l.self.groups)
    (λ a. list_any (λ b. b) (map (λ k. is_true (living l.self.graph.now.nodes l.self.skips.now) k a) (take l.child-index l.child-items)))
    (λ v. mentions l.self.graph.now.nodes v l.at) l.set
