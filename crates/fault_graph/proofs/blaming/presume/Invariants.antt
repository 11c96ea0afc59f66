use Rattle.std.proofs.Common.{◌≡◌, ℕ, ◌<◌, get_or, Some}
use Rattle.std.specs.Prelude.{slice_get}
use Rattle.fault_graph.specs.inner.Presumed.{presumed}
use Rattle.fault_graph.proofs.blaming.presume.Given as goal

abbrev pub invariant-loop-part : goal.invariant-loop-part
invariant-loop-part l = (k : ℕ) → k < l.part → slice_get l.verdicts k ≡ Some (presumed (get_or l.evidence k 0) (get_or l.suspects k 0))
