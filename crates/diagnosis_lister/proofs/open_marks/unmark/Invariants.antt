use Rattle.std.proofs.Common.{◌≡◌, ℕ, ◌%◌, ◌<◌, ◌≤◌, get_or}
use Rattle.diagnosis_lister.proofs.open_marks.unmark.Given as goal

abbrev pub invariant-loop-mark : goal.invariant-loop-mark
invariant-loop-mark l = record {
  done : (k : ℕ) → k < l.mark-index → get_or l.state k 0 ≡ get_or l.fn.state k 0 % 2;
  left : (k : ℕ) → l.mark-index ≤ k → get_or l.state k 0 ≡ get_or l.fn.state k 0;
}
