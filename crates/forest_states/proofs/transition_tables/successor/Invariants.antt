use Rattle.std.proofs.Common.{◌≡◌, ◌≤◌, drop, length}
use Rattle.forest_states.specs.inner.TransitionTables.{spread}
use Rattle.forest_states.specs.inner.Descents.{successor}
use Rattle.forest_states.proofs.Sets.{behind}
use Rattle.forest_states.proofs.Spread.{told}
use Rattle.forest_states.proofs.transition_tables.successor.Given as goal

abbrev pub invariant-loop-change : goal.invariant-loop-change
invariant-loop-change l = record {
  low : l.next ≤ told l.changes l.change-index;
  short : length l.left ≤ told l.changes l.change-index;
  left : behind l.left (successor l.bit (spread (drop l.change-index l.changes) l.rest) (drop l.next l.state)) ≡ successor l.bit (spread l.changes l.rest) l.state;
}
