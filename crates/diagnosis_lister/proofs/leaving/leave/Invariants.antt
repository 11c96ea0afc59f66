use Rattle.std.proofs.Common.{◌≤◌, ◌<◌, ◌+◌, All, length, drop}
use Rattle.diagnosis_lister.specs.Listing.{fault_count}
use Rattle.diagnosis_lister.specs.inner.OpenMarks.{marked_bits}
use Rattle.minimiser.specs.LeastStates.{ModelWithin}
use Rattle.diagnosis_lister.specs.inner.Fixing.{Follows}
use Rattle.diagnosis_lister.proofs.leaving.leave.Given as goal

-- no later state leaves the point at the parts that were tried
abbrev pub invariant-loop-part : goal.invariant-loop-part
invariant-loop-part g l = record {
  small : All (λ w. w < 3) l.evidence;
  back : Follows (ModelWithin l.graph l.fn.evidence l.costs l.fewest) l.fn.evidence (marked_bits l.state) l.evidence l.part;
  steps : l.steps ≤ l.fn.steps + fault_count (drop l.part (marked_bits l.state));
  within : l.part ≤ length l.state;
}
