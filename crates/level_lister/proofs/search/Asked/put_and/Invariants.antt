use Rattle.std.proofs.Common.{List, ℕ, map, take, length}
use Rattle.std.specs.List.{list_all, list_any}
use Rattle.state_rules.specs.Graphs.{is_true, mentions}
use Rattle.level_lister.specs.inner.Skips.{living}
use Rattle.level_lister.specs.inner.CostSets.{IsCostSet}
use Rattle.level_lister.specs.inner.NodeSets.{AreNodeSets}
use Rattle.level_lister.proofs.search.Asked.put_and.Given as goal

-- the set is that of an And node over the children before the place
abbrev pub invariant-loop-child : goal.invariant-loop-child
invariant-loop-child l = (evidence costs : List ℕ) → AreNodeSets l.self.graph.now l.self.skips.now evidence costs (length l.set) l.sets l.at
    → IsCostSet evidence costs (λ a. list_all (λ b. b) (map (λ k. is_true (living l.self.graph.now.nodes l.self.skips.now) k a) (take l.child-index l.child-items)))
    (λ v. list_any (λ b. b) (map (mentions l.self.graph.now.nodes v) (take l.child-index l.child-items))) l.set
