use Rattle.std.proofs.Common.{◌≡◌, take}
use Rattle.clause_answers.proofs.weights.are_same.Given as goal

abbrev pub invariant-loop-at : goal.invariant-loop-at
invariant-loop-at l = take l.at l.members ≡ take l.at l.others
