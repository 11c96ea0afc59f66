use Rattle.std.proofs.Common.{◌≤◌, vec_capacity}
use Rattle.clause_answers.specs.inner.Weighing.{Weighs, Grown}
use Rattle.clause_answers.proofs.cores.find.Given as goal

abbrev pub invariant-loop-turn : goal.invariant-loop-turn
invariant-loop-turn l = record {
  grown : Grown l.initial.search.rules l.search.rules;
  room : vec_capacity l.initial.room.assumed ≤ vec_capacity l.room.assumed;
  weighs : Weighs l.search.rules l.costs.items l.evidence l.literals l.weights;
}
