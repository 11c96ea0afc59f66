use Rattle.std.proofs.Common.{◌≢◌, ℕ, ◌<◌, ◌≤◌, get_or}
use Rattle.probe_report.proofs.leaving.is_some_open.Given as goal

-- the evidence so far
abbrev pub invariant-loop-i : goal.invariant-loop-i
invariant-loop-i l = (j : ℕ) → l.from ≤ j → j < l.i → get_or l.evidence j 0 ≢ 0
