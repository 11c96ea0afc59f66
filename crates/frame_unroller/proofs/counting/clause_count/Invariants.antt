use Rattle.std.proofs.Common.{ℕ, ◌≤◌, ◌*◌}
use Rattle.frame_unroller.proofs.ClauseCounts.{Counted}
use Rattle.frame_unroller.proofs.counting.clause_count.Given as goal

-- the clauses of the parts so far at the first time and at any later one
abbrev pub invariant-loop-place : goal.invariant-loop-place
invariant-loop-place l = record {
  at_first : Counted l.seq l.frames 1 l.place l.first;
  at_later : (t : ℕ) → 2 ≤ t → Counted l.seq l.frames t l.place l.later;
  few : l.later ≤ 256 * l.place;
  fewer : l.first ≤ l.later;
}
