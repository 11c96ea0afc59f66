use Rattle.std.proofs.Common.{◌≡◌, ◌≤◌, take, not}
use Rattle.std.specs.Prelude.{count_by}
use Rattle.frame_unroller.proofs.delays.copy_count.Given as goal

-- the number of parts so far that are not delayed
abbrev pub invariant-loop-delayed : goal.invariant-loop-delayed
invariant-loop-delayed l = record {
  counted : l.first ≡ count_by not (take l.delayed-index l.delays);
  few : l.first ≤ l.delayed-index;
}
