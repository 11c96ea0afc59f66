use Rattle.std.proofs.Common.{◌+◌, ◌≤◌, drop}
use Rattle.state_rules.specs.Assignments.{Assignment}
use Rattle.clause_search.specs.Searching.{false_weight}
use Rattle.clause_search.specs.inner.Marks.{Agrees}
use Rattle.clause_search.proofs.definitions.is_exceeded.Given as goal

abbrev pub invariant-loop-member : goal.invariant-loop-member
invariant-loop-member l = (a : Assignment) → Agrees a l.marks → false_weight a (drop l.member-index l.members) + l.limit ≤ false_weight a l.members + l.left
