use Rattle.std.proofs.Common.{◌≡◌, true}
use Rattle.state_rules.specs.Assignments.{Assignment}
use Rattle.clause_search.specs.Searching.{all_true}
use Rattle.clause_search.specs.inner.Marks.{Agrees}
use Rattle.clause_search.proofs.kernel.assume.Given as goal

abbrev pub invariant-loop-literal : goal.invariant-loop-literal
invariant-loop-literal l = (a : Assignment) → Agrees a l.initial.marks → all_true a l.literals ≡ true → Agrees a l.marks
