use Rattle.std.proofs.Common.{◌≡◌, List, ℕ, map, take, length, get_or}
use Rattle.std.specs.List.{list_any}
use Rattle.state_rules.specs.Graphs.{is_true, mentions}
use Rattle.part_sets.specs.PartSets.{SameBelow}
use Rattle.level_lister.specs.inner.Skips.{living}
use Rattle.level_lister.specs.declared.groups.Groups.{Groups}
use Rattle.level_lister.specs.inner.CostSets.{IsCostSet}
use Rattle.level_lister.specs.inner.NodeSets.{AreNodeSets}
use Rattle.level_lister.specs.inner.FaultSets.{in_first, IsFaultSet, AreNodeFaults}
use Rattle.level_lister.proofs.pass.put_full.Given as goal

-- the set is that of an Or node over the children before the place, over the variables below all of them
abbrev pub invariant-loop-child : goal.invariant-loop-child
invariant-loop-child l = record {
  all : (skips evidence costs : List ℕ) → get_or skips l.at 0 ≡ 0 → SameBelow l.graph (length costs) l.at → AreNodeSets l.graph skips evidence costs (length l.set) l.sets l.at
      → IsCostSet evidence costs (λ a. list_any (λ b. b) (map (λ k. is_true (living l.graph.nodes skips) k a) (take l.child-index l.child-items))) (λ v. mentions l.graph.nodes v l.at) l.set;
  faulty : (skips evidence costs : List ℕ) (groups : Groups) → get_or skips l.at 0 ≡ 0 → SameBelow l.graph (length costs) l.at → AreNodeFaults l.graph skips evidence costs groups (length l.set) l.sets l.at
      → IsFaultSet evidence costs (in_first evidence costs groups) (λ a. list_any (λ b. b) (map (λ k. is_true (living l.graph.nodes skips) k a) (take l.child-index l.child-items))) (λ v. mentions l.graph.nodes v l.at) l.set;
}
