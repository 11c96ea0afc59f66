use Rattle.std.proofs.Common.{◌≡◌, ◌+◌, drop}
use Rattle.state_rules.specs.Assignments.{assignment}
use Rattle.clause_search.specs.Searching.{respects}
use Rattle.clause_search.proofs.definitions.Definitions.respects.Given as goal

abbrev pub invariant-loop-at : goal.invariant-loop-at
invariant-loop-at l = respects (assignment l.bits) (l.vars + l.at + 1) (drop l.at l.self.members) (drop l.at l.self.limits) ≡ respects (assignment l.bits) (l.vars + 1) l.self.members l.self.limits
