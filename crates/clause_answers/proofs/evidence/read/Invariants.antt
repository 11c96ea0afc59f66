use Rattle.std.proofs.Common.{◌≡◌, vec_capacity}
use Rattle.clause_answers.specs.inner.Known.{IsRead}
use Rattle.clause_answers.proofs.evidence.read.Given as goal

abbrev pub invariant-loop-place : goal.invariant-loop-place
invariant-loop-place l = record {
  read : IsRead l.words l.place l.literals.items;
  room : vec_capacity l.literals ≡ vec_capacity l.initial.literals;
}
