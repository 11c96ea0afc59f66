use Rattle.std.proofs.Common.{◌≡◌, map, take}
use Rattle.clause_encoder.specs.Replacing.{literal_for}
use Rattle.clause_encoder.proofs.replacement.push_replaced.Given as goal

abbrev pub invariant-loop-literal : goal.invariant-loop-literal
invariant-loop-literal l = record {
  clauses : l.writer.clauses ≡ l.fn.writer.clauses;
  raw : l.writer.raw.items ≡ map (literal_for l.variables) (take l.literal-index l.clause);
}
