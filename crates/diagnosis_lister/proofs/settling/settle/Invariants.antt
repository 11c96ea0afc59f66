use Rattle.std.proofs.Common.{◌≤◌, ◌<◌, ◌+◌, ◌-◌, All, length}
use Rattle.minimiser.specs.Stored.{AreLeastCosts}
use Rattle.diagnosis_lister.specs.Listing.{fault_count}
use Rattle.diagnosis_lister.specs.inner.Fixing.{fixed_bits}
use Rattle.diagnosis_lister.proofs.Settled.{Settled}
use Rattle.diagnosis_lister.proofs.settling.settle.Given as goal

-- the parts before one are fixed, and the values are the costs of the nodes
abbrev pub invariant-loop-part : goal.invariant-loop-part
invariant-loop-part g l = record {
  small : All (λ w. w < 3) l.evidence;
  settled : Settled l.graph l.costs l.fn.evidence l.evidence l.from;
  values : AreLeastCosts l.graph l.evidence l.costs l.values;
  steps : l.steps ≤ l.fn.steps + fault_count (fixed_bits (length l.costs) l.evidence);
  within : l.from ≤ length l.costs;
}

abbrev pub decreases-loop-part : goal.decreases-loop-part
decreases-loop-part g l = length l.costs - l.from
