use Rattle.std.proofs.Common.{◌≡◌}
use Rattle.clause_answers.specs.inner.Asking.{Lowered}
use Rattle.clause_answers.proofs.oracle.Oracle.least_from.Given as goal

abbrev pub invariant-loop-least : goal.invariant-loop-least
invariant-loop-least l = record {
  question : l.self.question ≡ l.initial.self.question;
  from : l.self.low ≡ l.from;
  state : Lowered l.self.question l.literals l.from l.top l.self.bits l.self.high l.least;
}

abbrev pub decreases-loop-least : goal.decreases-loop-least
decreases-loop-least l = l.self.high
