use Rattle.std.proofs.Common.{◌≡◌, ◌≢◌, ℕ, ◌<◌, ◌≤◌, get_or, All}
use Rattle.conditioner.proofs.evidence.fix_ok.Given as goal

abbrev pub invariant-loop-part : goal.invariant-loop-part
invariant-loop-part l = record {
  small : All (λ w. w < 3) l.evidence;
  fixed : (k : ℕ) → l.from ≤ k → k < l.part → get_or l.fn.evidence k 0 ≡ 0 → get_or l.evidence k 0 ≡ 1;
  kept : (k : ℕ) → get_or l.fn.evidence k 0 ≢ 0 → get_or l.evidence k 0 ≡ get_or l.fn.evidence k 0;
  before : (k : ℕ) → k < l.from → get_or l.evidence k 0 ≡ get_or l.fn.evidence k 0;
  left : (k : ℕ) → l.part ≤ k → get_or l.evidence k 0 ≡ get_or l.fn.evidence k 0;
  behind : (k : ℕ) → l.to ≤ k → get_or l.evidence k 0 ≡ get_or l.fn.evidence k 0;
}
