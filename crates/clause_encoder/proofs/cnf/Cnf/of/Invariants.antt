use Rattle.std.proofs.Common.{◌≡◌, take}
use Rattle.clause_encoder.proofs.cnf.Cnf.of.Given as goal

abbrev pub invariant-loop-clause : goal.invariant-loop-clause
invariant-loop-clause l = l.flat ≡ take l.clause-index l.clause-items
