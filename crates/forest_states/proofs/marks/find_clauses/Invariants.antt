use Rattle.std.proofs.Common.{◌≡◌, ◌≤◌, ◌+◌, ℕ, [], map, length, replicate, get_or}
use Rattle.std.specs.List.{filter, range_with_len}
use Rattle.forest_states.specs.inner.Descents.{has_var, clause_at}
use Rattle.forest_states.proofs.marks.find_clauses.Given as goal

abbrev pub invariant-loop-var : goal.invariant-loop-var
invariant-loop-var l = map (λ v. v.items) l.of.items ≡ replicate l._var []

abbrev pub invariant-loop-number : goal.invariant-loop-number
invariant-loop-number l = record {
  long : length l.of.items ≡ l.cnf.vars + 1;
  of : (v : ℕ) → v ≤ l.cnf.vars → get_or (map (λ u. u.items) l.of.items) v [] ≡ filter (λ n. has_var v (clause_at l.cnf.clauses n)) (range_with_len 0 l.number);
}
