use Rattle.std.proofs.Common.{◌≡◌, ℕ, ◌<◌, ◌≤◌, get_or}
use Rattle.state_rules.specs.Bits.{bit_in}
use Rattle.state_rules.specs.declared.blame.Blame.TheVariants.{Inconsistent}
use Rattle.clause_answers.specs.inner.Reported.{noted}
use Rattle.clause_answers.proofs.blaming.note.Given as goal

abbrev pub invariant-loop-part : goal.invariant-loop-part
invariant-loop-part l = record {
  done : (i : ℕ) → i < l.part → get_or l.verdicts i Inconsistent ≡ noted (get_or l.fn.verdicts i Inconsistent) (bit_in l.bits i);
  left : (i : ℕ) → l.part ≤ i → get_or l.verdicts i Inconsistent ≡ get_or l.fn.verdicts i Inconsistent;
}
