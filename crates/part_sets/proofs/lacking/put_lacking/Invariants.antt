use Rattle.std.proofs.Common.{◌≡◌, length}
use Rattle.part_sets.proofs.Flags.{AreFlags}
use Rattle.part_sets.proofs.lacking.put_lacking.Given as goal

-- the words of the nodes before this one are there
abbrev pub invariant-loop-at : goal.invariant-loop-at
invariant-loop-at l = record {
  flags : AreFlags l.graph l.parts l.lacking l.at;
  end : l.count ≡ length l.graph.nodes;
}
