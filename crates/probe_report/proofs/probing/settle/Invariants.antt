use Rattle.std.proofs.Common.{◌≡◌, ℕ, ◌+◌, ◌<◌, ◌≤◌, length, get_or}
use Rattle.probe_report.specs.inner.Settled.{settled}
use Rattle.probe_report.proofs.probing.settle.Given as goal

-- the wires so far
abbrev pub invariant-loop-i : goal.invariant-loop-i
invariant-loop-i l = record {
  done : (j : ℕ) → j < l.i → j < length l.list → get_or l.list j 0 ≡ settled (get_or l.evidence (l.parts + j) 0) l.fewest l.held l.bit (get_or l.fn.list j 0);
  left : (j : ℕ) → l.i ≤ j → get_or l.list j 0 ≡ get_or l.fn.list j 0;
}
