use Rattle.std.proofs.Common.{◌≡◌, ℕ, ◌<◌, Some}
use Rattle.std.specs.Prelude.{slice_get}
use Rattle.state_rules.specs.declared.blame.Blame.TheVariants.{Inconsistent}
use Rattle.fault_graph.proofs.answering.tell_none.Given as goal

abbrev pub invariant-loop-verdict : goal.invariant-loop-verdict
invariant-loop-verdict l = (part : ℕ) → part < l.verdict-index → slice_get l.verdicts part ≡ Some Inconsistent
