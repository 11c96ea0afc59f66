use Rattle.std.proofs.Common.{◌≡◌, ℕ, ◌<◌, ◌≤◌, length, get_or}
use Rattle.minimiser.specs.inner.Outside.{lowered}
use Rattle.probe_report.specs.inner.Outside.{is_left}
use Rattle.probe_report.proofs.leaving.lower_all.Given as goal

-- the wires so far
abbrev pub invariant-loop-i : goal.invariant-loop-i
invariant-loop-i l = record {
  done : (j : ℕ) → j < l.i → j < length l.list → get_or l.list j 0 ≡ lowered (is_left l.start l.mark l.child j) l.cost (get_or l.fn.list j 0);
  left : (j : ℕ) → l.i ≤ j → get_or l.list j 0 ≡ get_or l.fn.list j 0;
}
