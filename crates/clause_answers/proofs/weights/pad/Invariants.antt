use Rattle.std.proofs.Common.{◌≡◌, ℕ, ◌≤◌, List, length, vec_capacity}
use Rattle.state_rules.specs.Assignments.{Assignment}
use Rattle.clause_search.specs.declared.weighted.Weighted.{Weighted}
use Rattle.clause_answers.specs.inner.Weighing.{spread}
use Rattle.clause_answers.proofs.weights.pad.Given as goal

abbrev pub invariant-loop-definition : goal.invariant-loop-definition
invariant-loop-definition l = record {
  short : length l.bounds.items ≤ l.definitions;
  same : (a : Assignment) (members : List (List Weighted)) (limits : List ℕ) → spread a members limits l.bounds.items ≡ spread a members limits l.initial.bounds.items;
  capacity : vec_capacity l.bounds ≡ vec_capacity l.initial.bounds;
}
