use Rattle.std.proofs.Common.{◌≡◌, true, take}
use Rattle.state_rules.specs.Assignments.{Assignment}
use Rattle.clause_encoder.specs.Clauses.{is_true_clause}
use Rattle.clause_search.specs.inner.Marks.{Agrees, IsLeft}
use Rattle.clause_search.proofs.marks.left_of.Given as goal

abbrev pub invariant-loop-literal : goal.invariant-loop-literal
invariant-loop-literal l = (a : Assignment) → Agrees a l.marks → is_true_clause a (take l.literal-index l.clause) ≡ true → IsLeft a l.left
