use Rattle.std.proofs.Common.{◌≡◌, true}
use Rattle.state_rules.specs.Assignments.{Assignment}
use Rattle.clause_search.specs.Searching.{all_true}
use Rattle.clause_search.proofs.search.read_core.Given as goal

abbrev pub invariant-loop-place : goal.invariant-loop-place
invariant-loop-place l = (a : Assignment) → all_true a l.assumptions ≡ true → all_true a l.core.items ≡ true
