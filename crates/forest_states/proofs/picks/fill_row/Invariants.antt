use Rattle.std.proofs.Common.{◌≡◌, ◌+◌, ◌≤◌, ◌++◌, List, Bool, drop, length}
use Rattle.state_rules.specs.Bits.{row_number}
use Rattle.forest_states.specs.inner.TransitionTables.{flags_in, filled}
use Rattle.forest_states.proofs.picks.fill_row.Given as goal

abbrev pub invariant-loop-run : goal.invariant-loop-run
invariant-loop-run l = record {
  short : l.len + length (flags_in (drop l.run-index l.runs) l.last) ≤ length (flags_in l.runs l.last);
  left : (state : List Bool) → l.word ≡ row_number state → (bits : List Bool) × (rest : List Bool) × (length bits ≡ l.len) × (l.left ≡ row_number bits) × (l.from ≡ row_number rest)
      × (bits ++ filled (flags_in (drop l.run-index l.runs) l.last) rest ≡ filled (flags_in l.runs l.last) state);
}
