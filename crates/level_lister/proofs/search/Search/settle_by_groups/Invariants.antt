use Rattle.std.proofs.Common.{ℕ, ◌+◌, ◌-◌, ◌*◌, ◌<◌, ◌≤◌, All, length}
use Rattle.diagnosis_lister.specs.Listing.{fault_count}
use Rattle.diagnosis_lister.specs.inner.Fixing.{fixed_bits}
use Rattle.level_lister.specs.Passes.{AreEnough}
use Rattle.diagnosis_lister.proofs.FixedParts.{Settles}
use Rattle.level_lister.specs.inner.Searching.{OfCost}
use Rattle.level_lister.proofs.search.Search.settle_by_groups.Given as goal

-- the parts before this one are fixed, and each fault was searched
abbrev pub invariant-loop-part : goal.invariant-loop-part
invariant-loop-part g l = record {
  small : All (λ w. w < 3) l.evidence;
  settles : Settles (λ evidence h. OfCost l.self.graph.now evidence l.self.levels.now.costs l.cost h) (length l.self.levels.now.costs) l.fn.evidence l.evidence l.from;
  steps : (search : ℕ) → AreEnough (length l.self.levels.now.costs) l.self.levels.now.top search → l.steps ≤ l.fn.steps + fault_count (fixed_bits (length l.self.levels.now.costs) l.evidence) * search;
  within : l.from ≤ length l.self.levels.now.costs;
}

abbrev pub decreases-loop-part : goal.decreases-loop-part
decreases-loop-part g l = length l.self.levels.now.costs - l.from
