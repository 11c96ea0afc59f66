use Rattle.std.proofs.Common.{◌≡◌, take}
use Rattle.branch_states.proofs.branches.copy_of.Given as goal

abbrev pub invariant-loop-at : goal.invariant-loop-at
invariant-loop-at l = l.clauses.items ≡ take l.at l.cnf.clauses
