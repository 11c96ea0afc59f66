use Rattle.std.proofs.Common.{◌≡◌, ℕ, ◌<◌, ◌≤◌, ◌+◌, take, Some}
use Rattle.std.specs.Prelude.{slice_get}
use Rattle.conditioner.specs.Evidence.{bits_of}
use Rattle.diagnosis_lister.specs.Listing.{fault_count}
use Rattle.probe_report.specs.Verdicts.{blame_of}
use Rattle.fault_graph.proofs.blaming.confirm.Given as goal

-- the verdicts so far are right, and the others as they were
abbrev pub invariant-loop-part : goal.invariant-loop-part
invariant-loop-part g l = record {
  evidence : l.evidence ≡ l.fn.evidence;
  done : (k : ℕ) → k < l.part → slice_get l.verdicts k ≡ Some (blame_of l.graph l.fn.evidence l.costs k);
  left : (k : ℕ) → l.part ≤ k → slice_get l.verdicts k ≡ slice_get l.fn.verdicts k;
  steps : l.steps ≤ l.fn.steps + fault_count (take l.part (bits_of l.state));
}
