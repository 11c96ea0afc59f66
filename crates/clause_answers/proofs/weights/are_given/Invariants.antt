use Rattle.std.proofs.Common.{◌≡◌, true, length, take}
use Rattle.state_rules.specs.Assignments.{Assignment}
use Rattle.clause_search.specs.Searching.{all_true}
use Rattle.clause_answers.specs.inner.Known.{Knows}
use Rattle.clause_answers.proofs.weights.are_given.Given as goal

abbrev pub invariant-loop-literal : goal.invariant-loop-literal
invariant-loop-literal l = (a : Assignment) → Knows a l.evidence (length l.evidence) → all_true a l.literals ≡ true → all_true a (take l.literal-index l.core) ≡ true
