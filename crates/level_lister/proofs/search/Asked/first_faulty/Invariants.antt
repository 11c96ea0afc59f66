use Rattle.std.proofs.Common.{ℕ, ◌+◌, ◌*◌, ◌^◌, ◌<◌, ◌≤◌, length}
use Rattle.level_lister.specs.Passes.{first_passes, groups_per_pass}
use Rattle.level_lister.specs.inner.NodeSets.{AreReady}
use Rattle.level_lister.proofs.FaultRanges.{IsRange, PassesLeft}
use Rattle.level_lister.proofs.search.Asked.first_faulty.Given as goal

-- the first fault is in the range, enough passes are left, and what they use is there
abbrev pub invariant-loop-span : goal.invariant-loop-span
invariant-loop-span g l = record {
  range : IsRange l.self.graph.now l.self.evidence.now l.self.levels.now.costs l.cost l.from l.low l.span;
  some : 0 < l.span;
  small : l.low + 33 * l.span ≤ 34 * (length l.self.levels.now.costs + 1);
  passes : (k : ℕ) → length l.self.levels.now.costs < (groups_per_pass l.self.levels.now.top + 1) ^ k → PassesLeft (groups_per_pass l.self.levels.now.top) l.span l.steps (l.fn.steps + first_passes l.self.levels.now.top + k);
  ready : AreReady l.self.graph.now l.self.skips.now l.self.evidence.now l.self.levels.now l.work;
}

abbrev pub decreases-loop-span : goal.decreases-loop-span
decreases-loop-span g l = l.span
