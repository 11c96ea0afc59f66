use Rattle.std.proofs.Common.{◌≡◌, ℕ, ◌<◌}
use Rattle.state_rules.specs.Bits.{bit_in}
use Rattle.conditioner.specs.Evidence.{bits_of}
use Rattle.clause_answers.specs.inner.Listed.{AreOrdered, signs}
use Rattle.clause_answers.proofs.state_words.read.Given as goal

abbrev pub invariant-loop-place : goal.invariant-loop-place
invariant-loop-place l = record {
  ordered : AreOrdered l.literals l.place;
  said : (i : ℕ) → i < l.place → bit_in (signs l.literals) i ≡ bit_in (bits_of l.state) i;
}
