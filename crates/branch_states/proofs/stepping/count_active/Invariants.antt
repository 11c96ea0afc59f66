use Rattle.std.proofs.Common.{◌≡◌, length, take}
use Rattle.std.specs.List.{filter}
use Rattle.elimination_forests.specs.Branches.{order, is_active}
use Rattle.branch_states.proofs.stepping.count_active.Given as goal

abbrev pub invariant-loop-at : goal.invariant-loop-at
invariant-loop-at l = l.count ≡ length (filter (is_active (order l.cnf.clauses) l.level) (take l.at l.cnf.clauses))
