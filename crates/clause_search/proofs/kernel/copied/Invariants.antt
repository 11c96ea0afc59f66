use Rattle.std.proofs.Common.{◌≡◌, take}
use Rattle.clause_search.proofs.kernel.copied.Given as goal

abbrev pub invariant-loop-at : goal.invariant-loop-at
invariant-loop-at l = l.lists ≡ take l.at l.cnf.clauses
