use Rattle.std.proofs.Common.{List, ℕ, map, take, length}
use Rattle.std.specs.List.{list_all, list_any}
use Rattle.state_rules.specs.Graphs.{is_true, mentions}
use Rattle.level_lister.specs.inner.Skips.{living}
use Rattle.level_lister.specs.declared.groups.Groups.{Groups}
use Rattle.level_lister.specs.inner.Pairs.{Tells, TellNodes, group_count, group_in}
use Rattle.level_lister.proofs.pair_pass.PairPass.and_pair.Given as goal

-- the words are those of an And node over the children before the place
abbrev pub invariant-loop-child : goal.invariant-loop-child
invariant-loop-child l = (evidence : List ℕ) (groups : Groups) → TellNodes l.self.graph.now l.self.skips.now evidence l.self.levels.now.costs l.self.levels.now.top groups l.values l.at
    → Tells evidence l.self.levels.now.costs l.self.levels.now.top (group_count l.self.levels.now.top) (group_in evidence (length l.self.levels.now.costs) groups)
    (λ a. list_all (λ b. b) (map (λ k. is_true (living l.self.graph.now.nodes l.self.skips.now) k a) (take l.child-index l.child-items)))
    (λ v. list_any (λ b. b) (map (mentions l.self.graph.now.nodes v) (take l.child-index l.child-items))) l.pair
