use Rattle.std.proofs.Common.{◌≡◌, ◌++◌, ◌∷◌, drop}
use Rattle.clause_encoder.specs.Encoding.{blocking_literals, row_bits}
use Rattle.clause_encoder.proofs.gates.begin_row.Given as goal

-- the bits left are those of the variables left
abbrev pub invariant-loop-variable : goal.invariant-loop-variable
invariant-loop-variable l = record {
  clauses : l.writer.clauses ≡ l.fn.writer.clauses;
  raw : l.writer.raw.items ++ blocking_literals (drop l.variable-index l.variables) (row_bits l.rest (drop l.variable-index l.variables))
      ≡ l.fn.first ∷ blocking_literals l.variables (row_bits l.fn.row l.variables);
}
