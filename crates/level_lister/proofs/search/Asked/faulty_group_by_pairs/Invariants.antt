use Rattle.std.proofs.Common.{ℕ, ◌<◌}
use Rattle.level_lister.specs.inner.Pairs.{FaultOf}
use Rattle.level_lister.proofs.search.Asked.faulty_group_by_pairs.Given as goal

-- no part of the groups before this one is faulty
abbrev pub invariant-loop-group : goal.invariant-loop-group
invariant-loop-group l = (g : ℕ) → g < l.group → FaultOf l.self.graph.now l.self.evidence.now l.self.levels.now.costs l.cost l.fn.groups g → ⊥
