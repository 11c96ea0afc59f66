use Rattle.std.proofs.Common.{◌≡◌, map, take}
use Rattle.clause_encoder.specs.Encoding.{tidy}
use Rattle.clause_encoder.specs.Replacing.{literal_for}
use Rattle.clause_encoder.proofs.replacement.replaced.Given as goal

abbrev pub invariant-loop-at : goal.invariant-loop-at
invariant-loop-at l = l.writer.clauses ≡ tidy (map (map (literal_for l.variables)) (take l.at l.cnf.clauses))
