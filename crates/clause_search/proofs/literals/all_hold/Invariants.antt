use Rattle.std.proofs.Common.{◌≡◌, drop}
use Rattle.state_rules.specs.Assignments.{assignment}
use Rattle.clause_encoder.specs.Clauses.{all_hold}
use Rattle.clause_search.proofs.literals.all_hold.Given as goal

abbrev pub invariant-loop-at : goal.invariant-loop-at
invariant-loop-at l = all_hold (assignment l.bits) (drop l.at l.clauses) ≡ all_hold (assignment l.bits) l.clauses
