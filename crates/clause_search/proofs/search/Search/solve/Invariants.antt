use Rattle.std.proofs.Common.{◌≡◌}
use Rattle.clause_search.proofs.search.Search.solve.Given as goal

abbrev pub invariant-loop-turn : goal.invariant-loop-turn
invariant-loop-turn l = l.self.rules ≡ l.initial.self.rules
