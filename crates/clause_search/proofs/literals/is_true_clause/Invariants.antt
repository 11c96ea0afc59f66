use Rattle.std.proofs.Common.{◌≡◌, drop}
use Rattle.state_rules.specs.Assignments.{assignment}
use Rattle.clause_encoder.specs.Clauses.{is_true_clause}
use Rattle.clause_search.proofs.literals.is_true_clause.Given as goal

abbrev pub invariant-loop-literal : goal.invariant-loop-literal
invariant-loop-literal l = is_true_clause (assignment l.bits) (drop l.literal-index l.clause) ≡ is_true_clause (assignment l.bits) l.clause
