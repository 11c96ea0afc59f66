use Rattle.std.proofs.Common.{◌≡◌, ◌≤◌, ◌+◌, ◌*◌, ◌++◌, drop}
use Rattle.clause_encoder.specs.Encoding.{tidy, clauses_from, all_clauses}
use Rattle.clause_encoder.proofs.WrittenClauses.{inner_at}
use Rattle.clause_encoder.proofs.encoding.push_parts.Given as goal

-- what is written, and what the parts left add
abbrev pub invariant-loop-place : goal.invariant-loop-place
invariant-loop-place l = record {
  clauses : l.writer.clauses ++ tidy (clauses_from l.device (l.place + 1) (inner_at l.device l.place) (drop l.place l.device.parts)) ≡ l.fn.writer.clauses ++ tidy (all_clauses l.device);
  inner : l.inner ≡ inner_at l.device l.place;
  few : l.inner ≤ 20481 + 64 * l.place;
}
