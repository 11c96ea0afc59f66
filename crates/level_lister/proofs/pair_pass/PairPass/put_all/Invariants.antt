use Rattle.std.proofs.Common.{◌≡◌, length}
use Rattle.level_lister.specs.inner.Pairs.{TellNodes}
use Rattle.level_lister.proofs.pair_pass.PairPass.put_all.Given as goal

-- the words of the nodes before this one are there
abbrev pub invariant-loop-at : goal.invariant-loop-at
invariant-loop-at l = record {
  told : TellNodes l.self.graph.now l.self.skips.now l.self.evidence.now l.self.levels.now.costs l.self.levels.now.top l.self.groups l.values l.at;
  end : l.at-end ≡ length l.self.graph.now.nodes;
}
