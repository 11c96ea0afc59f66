use Rattle.std.proofs.Common.{◌≡◌, true, take}
use Rattle.elimination_forests.specs.Branches.{is_covered}
use Rattle.branch_states.proofs.clauses.is_covered.Given as goal

abbrev pub invariant-loop-literal : goal.invariant-loop-literal
invariant-loop-literal l = is_covered l.variables.keys l.level (take l.literal-index l.clause) ≡ true
