use Rattle.std.proofs.Common.{◌+◌, ◌<◌, ◌≤◌, All, drop, length}
use Rattle.conditioner.specs.Evidence.{bits_of}
use Rattle.diagnosis_lister.specs.Listing.{fault_count}
use Rattle.diagnosis_lister.specs.inner.Fixing.{Follows}
use Rattle.level_lister.specs.inner.Searching.{OfCost}
use Rattle.level_lister.proofs.search.Search.leave.Given as goal

-- no later state follows the state further than this part, and the parts from here on are as they were
abbrev pub invariant-loop-part : goal.invariant-loop-part
invariant-loop-part g l = record {
  small : All (λ w. w < 3) l.evidence;
  back : Follows (OfCost l.self.graph.now l.fn.evidence l.self.levels.now.costs l.cost) l.fn.evidence (bits_of l.state) l.evidence l.part;
  steps : l.steps ≤ l.fn.steps + fault_count (drop l.part (bits_of l.state));
  within : l.part ≤ length l.state;
}
