use Rattle.std.proofs.Common.{◌≡◌, ◌+◌, drop}
use Rattle.state_rules.specs.Assignments.{assignment}
use Rattle.clause_search.specs.Searching.{false_weight}
use Rattle.clause_search.proofs.definitions.is_at_most.Given as goal

abbrev pub invariant-loop-member : goal.invariant-loop-member
invariant-loop-member l = false_weight (assignment l.bits) (drop l.member-index l.members) + l.limit ≡ false_weight (assignment l.bits) l.members + l.left
