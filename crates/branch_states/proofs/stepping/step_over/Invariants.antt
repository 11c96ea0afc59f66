use Rattle.branch_states.proofs.OneStep.{IsStepped}
use Rattle.branch_states.proofs.stepping.step_over.Given as goal

abbrev pub invariant-loop-at : goal.invariant-loop-at
invariant-loop-at l = IsStepped l.cnf.clauses l.level l.bit l.state l.next l.at l.read l.written
