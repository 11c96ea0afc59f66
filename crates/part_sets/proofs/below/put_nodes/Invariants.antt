use Rattle.std.proofs.Common.{◌≡◌, length}
use Rattle.part_sets.specs.PartSets.{ArePartsBelow}
use Rattle.part_sets.proofs.below.put_nodes.Given as goal

-- the sets of the nodes before this one are there
abbrev pub invariant-loop-at : goal.invariant-loop-at
invariant-loop-at l = record {
  sets : ArePartsBelow l.graph l.parts l.below l.at;
  end : l.at-end ≡ length l.graph.nodes;
}
