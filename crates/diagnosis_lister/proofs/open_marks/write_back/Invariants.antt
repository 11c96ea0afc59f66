use Rattle.std.proofs.Common.{◌≡◌, ℕ, ◌<◌, ◌≤◌, get_or}
use Rattle.std.specs.Prelude.{if◌then◌else◌, ◌==◌}
use Rattle.diagnosis_lister.specs.inner.OpenMarks.{is_marked}
use Rattle.diagnosis_lister.proofs.open_marks.write_back.Given as goal

-- what was written so far, and the rest is as it was
abbrev pub invariant-loop-part : goal.invariant-loop-part
invariant-loop-part l = record {
  evidence : (k : ℕ) → k < l.part → get_or l.evidence k 0 ≡ (if is_marked (get_or l.fn.state k 0) then 0 else get_or l.fn.evidence k 0);
  state : (k : ℕ) → k < l.part → get_or l.state k 0 ≡ (if get_or l.fn.evidence k 0 == 2 then 1 else 0);
  other_words : (k : ℕ) → l.part ≤ k → get_or l.evidence k 0 ≡ get_or l.fn.evidence k 0;
  other_state : (k : ℕ) → l.part ≤ k → get_or l.state k 0 ≡ get_or l.fn.state k 0;
}
