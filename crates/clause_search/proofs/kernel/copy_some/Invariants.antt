use Rattle.std.proofs.Common.{◌≡◌, true}
use Rattle.state_rules.specs.Assignments.{Assignment}
use Rattle.clause_encoder.specs.Clauses.{all_hold}
use Rattle.clause_search.proofs.kernel.copy_some.Given as goal

abbrev pub invariant-loop-at : goal.invariant-loop-at
invariant-loop-at l = (a : Assignment) → all_hold a l.from ≡ true → all_hold a l.to ≡ true
