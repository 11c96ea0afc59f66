use Rattle.std.proofs.Common.{◌≡◌, ◌+◌, ◌++◌, drop}
use Rattle.clause_search.specs.Searching.{priced}
use Rattle.clause_search.proofs.definitions.priced.Given as goal

abbrev pub invariant-loop-at : goal.invariant-loop-at
invariant-loop-at l = l.members.items ++ priced (l.at + 1) (drop l.at l.costs) ≡ priced 1 l.costs
