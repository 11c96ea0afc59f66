use Rattle.std.proofs.Common.{map, take}
use Rattle.std.specs.List.{list_any}
use Rattle.state_rules.specs.Graphs.{is_true, mentions}
use Rattle.level_lister.specs.inner.Skips.{living}
use Rattle.level_lister.specs.inner.CostSets.{IsCostSet}
use Rattle.level_lister.proofs.search.Asked.put_or.Given as goal

-- the set is that of an Or node over the children before the place, over the variables below all of them
abbrev pub invariant-loop-child : goal.invariant-loop-child
invariant-loop-child l = IsCostSet l.self.evidence.now l.self.levels.now.costs (λ a. list_any (λ b. b) (map (λ k. is_true (living l.self.graph.now.nodes l.self.skips.now) k a) (take l.child-index l.child-items)))
    (λ v. mentions l.self.graph.now.nodes v l.at) l.set
