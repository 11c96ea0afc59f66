use Rattle.std.proofs.Common.{◌≡◌, drop}
use Rattle.state_rules.specs.Assignments.{assignment}
use Rattle.clause_search.specs.Searching.{all_true}
use Rattle.clause_search.proofs.literals.all_true.Given as goal

abbrev pub invariant-loop-literal : goal.invariant-loop-literal
invariant-loop-literal l = all_true (assignment l.bits) (drop l.literal-index l.literals) ≡ all_true (assignment l.bits) l.literals
