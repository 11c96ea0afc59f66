use Rattle.std.proofs.Common.{◌≡◌, ℕ, ◌<◌, get_or, pos}
use Rattle.std.specs.Prelude.{◌==◌}
use Rattle.clause_encoder.specs.Clauses.{is_positive}
use Rattle.clause_answers.proofs.state_words.write.Given as goal

abbrev pub invariant-loop-place : goal.invariant-loop-place
invariant-loop-place l = record {
  said : (i : ℕ) → i < l.place → (get_or l.state i 0 == 0) ≡ is_positive (get_or l.literals i (pos 0));
  words : (i : ℕ) → i < l.place → get_or l.state i 0 < 2;
}
