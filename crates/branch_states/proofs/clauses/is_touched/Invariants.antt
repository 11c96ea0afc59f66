use Rattle.std.proofs.Common.{◌≡◌, false, take}
use Rattle.elimination_forests.specs.Branches.{is_touched}
use Rattle.branch_states.proofs.clauses.is_touched.Given as goal

abbrev pub invariant-loop-literal : goal.invariant-loop-literal
invariant-loop-literal l = is_touched l.variables.keys l.level (take l.literal-index l.clause) ≡ false
