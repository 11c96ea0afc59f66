use Rattle.std.proofs.Common.{◌≡◌, ℕ, ◌<◌, ◌≤◌, get_or}
use Rattle.diagnosis_lister.specs.inner.OpenMarks.{mark_of}
use Rattle.diagnosis_lister.proofs.open_marks.mark.Given as goal

-- the evidence so far is marked, and the rest is as it was
abbrev pub invariant-loop-part : goal.invariant-loop-part
invariant-loop-part l = record {
  done : (k : ℕ) → k < l.part → get_or l.state k 0 ≡ mark_of (get_or l.evidence k 0) (get_or l.fn.state k 0);
  left : (k : ℕ) → l.part ≤ k → get_or l.state k 0 ≡ get_or l.fn.state k 0;
}
