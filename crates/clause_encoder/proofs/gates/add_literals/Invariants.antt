use Rattle.std.proofs.Common.{◌≡◌, ◌++◌, map, take}
use Rattle.clause_encoder.specs.Clauses.{literal}
use Rattle.clause_encoder.proofs.gates.add_literals.Given as goal

abbrev pub invariant-loop-variable : goal.invariant-loop-variable
invariant-loop-variable l = record {
  clauses : l.writer.clauses ≡ l.fn.writer.clauses;
  raw : l.writer.raw.items ≡ l.fn.writer.raw.items ++ map (literal l.positive) (take l.variable-index l.variables);
}
