use Rattle.std.proofs.Common.{◌≡◌, ◌+◌, ◌*◌, ◌≤◌, true, false, length, take}
use Rattle.state_rules.specs.Assignments.{Assignment}
use Rattle.clause_search.specs.Searching.{all_true, false_weight, keeps}
use Rattle.clause_answers.specs.inner.Known.{Knows}
use Rattle.clause_answers.specs.inner.Weighing.{weighed, Grown}
use Rattle.clause_answers.proofs.weights.collect.Given as goal

abbrev pub invariant-loop-literal : goal.invariant-loop-literal
invariant-loop-literal l = record {
  grown : Grown l.initial.search.rules l.search.rules;
  short : length l.weights.bounds.items ≤ length l.search.rules.members;
  parts : length l.weights.parts.items ≡ length l.initial.weights.parts.items;
  moved : (a : Assignment) → keeps l.search.rules a ≡ true
      → weighed l.search.rules l.weights a + l.amount * false_weight a l.moved.items ≤ weighed l.initial.search.rules l.initial.weights a;
  some : (a : Assignment) → Knows a l.evidence (length l.evidence) → all_true a l.literals ≡ true → all_true a (take l.literal-index l.core) ≡ false
      → 1 ≤ false_weight a l.moved.items;
}
