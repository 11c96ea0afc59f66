use Rattle.std.proofs.Common.{◌≡◌, ℕ, ◌+◌, ◌≤◌, true, length, vec_capacity}
use Rattle.state_rules.specs.Assignments.{Assignment}
use Rattle.clause_search.specs.Searching.{all_true, are_within}
use Rattle.clause_answers.specs.inner.Known.{AreTrue}
use Rattle.clause_answers.proofs.literals.add_weighted.Given as goal

abbrev pub invariant-loop-place : goal.invariant-loop-place
invariant-loop-place l = record {
  room : length l.literals.items + l.spare ≤ vec_capacity l.literals;
  only : (a : Assignment) → all_true a l.literals.items ≡ true → all_true a l.initial.literals.items ≡ true;
  enough : (a : Assignment) → all_true a l.initial.literals.items ≡ true → AreTrue a l.before l.weights l.place → all_true a l.literals.items ≡ true;
  within : (n : ℕ) → l.before + length l.weights ≤ n → are_within n l.initial.literals.items ≡ true → are_within n l.literals.items ≡ true;
  capacity : vec_capacity l.literals ≡ vec_capacity l.initial.literals;
}
