use Rattle.std.proofs.Common.{◌≡◌, false}
use Rattle.state_rules.specs.Assignments.{Assignment}
use Rattle.clause_encoder.specs.Clauses.{is_true_clause}
use Rattle.clause_search.specs.inner.Marks.{Agrees}
use Rattle.clause_search.proofs.kernel.falsify.Given as goal

abbrev pub invariant-loop-literal : goal.invariant-loop-literal
invariant-loop-literal l = (a : Assignment) → Agrees a l.initial.marks → is_true_clause a l.clause ≡ false → Agrees a l.marks
