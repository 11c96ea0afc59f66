use Rattle.std.proofs.Common.{map, take, length}
use Rattle.std.specs.List.{list_any}
use Rattle.state_rules.specs.Graphs.{is_true, mentions}
use Rattle.level_lister.specs.inner.Skips.{living}
use Rattle.level_lister.specs.inner.Pairs.{Tells, group_count, group_in}
use Rattle.level_lister.proofs.pair_pass.PairPass.or_pair.Given as goal

-- the words are those of an Or node over the children before the place, over the variables below all of them
abbrev pub invariant-loop-child : goal.invariant-loop-child
invariant-loop-child l = Tells l.self.evidence.now l.self.levels.now.costs l.self.levels.now.top (group_count l.self.levels.now.top) (group_in l.self.evidence.now (length l.self.levels.now.costs) l.self.groups)
    (λ a. list_any (λ b. b) (map (λ k. is_true (living l.self.graph.now.nodes l.self.skips.now) k a) (take l.child-index l.child-items)))
    (λ v. mentions l.self.graph.now.nodes v l.at) l.pair
