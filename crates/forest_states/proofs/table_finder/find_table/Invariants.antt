use Rattle.std.proofs.Common.{◌≡◌, ◌≤◌, ◌+◌, ◌++◌, drop, length}
use Rattle.forest_states.specs.inner.Descents.{transition_at, met, transitions_of, kept_of}
use Rattle.forest_states.proofs.table_finder.find_table.Given as goal

abbrev pub invariant-loop-number : goal.invariant-loop-number
invariant-loop-number l = record {
  short : length l.table + length l.rest ≤ length l.active + l.number-index;
  table : l.table ++ transitions_of (met (transition_at l.cnf.clauses l.seen l.var) (drop l.number-index l.touched) l.rest) ≡ transitions_of (met (transition_at l.cnf.clauses l.seen l.var) l.touched l.active);
  kept : l.kept.items ++ kept_of (met (transition_at l.cnf.clauses l.seen l.var) (drop l.number-index l.touched) l.rest) ≡ kept_of (met (transition_at l.cnf.clauses l.seen l.var) l.touched l.active);
}
