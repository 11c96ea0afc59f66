use Rattle.std.proofs.Common.{◌≡◌, ◌+◌, ◌≤◌, ◌++◌, drop, length}
use Rattle.forest_states.specs.inner.TransitionTables.{flags_in}
use Rattle.forest_states.specs.inner.Descents.{picked}
use Rattle.forest_states.proofs.picks.add_picked.Given as goal

abbrev pub invariant-loop-run : goal.invariant-loop-run
invariant-loop-run l = record {
  at : l.at + length (flags_in (drop l.run-index l.runs) l.last) ≡ length (flags_in l.runs l.last);
  short : length l.bits ≤ l.at;
  bits : l.bits ++ picked (flags_in (drop l.run-index l.runs) l.last) (drop l.at l.state) ≡ picked (flags_in l.runs l.last) l.state;
}
