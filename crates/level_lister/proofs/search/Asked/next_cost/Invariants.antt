use Rattle.std.proofs.Common.{◌≡◌, ℕ, ◌+◌, ◌<◌, ◌≤◌}
use Rattle.level_lister.specs.inner.Searching.{HasCost}
use Rattle.level_lister.proofs.search.Asked.next_cost.Given as goal

-- no state has one of the costs before this one
abbrev pub invariant-loop-cost : goal.invariant-loop-cost
invariant-loop-cost g l = record {
  none : (c : ℕ) → l.from ≤ c → c < l.cost → HasCost l.self.graph.now l.self.evidence.now l.self.levels.now.costs c → ⊥;
  end : l.cost-end ≡ l.self.levels.now.top + 1;
}
