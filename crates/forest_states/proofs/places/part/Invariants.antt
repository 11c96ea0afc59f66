use Rattle.std.proofs.Common.{◌≡◌, ◌≤◌, length, take, map}
use Rattle.elimination_forests.specs.Branches.{different}
use Rattle.forest_states.specs.inner.Descents.{picked, column_by}
use Rattle.forest_states.proofs.places.part.Given as goal

abbrev pub invariant-loop-at : goal.invariant-loop-at
invariant-loop-at l = record {
  few : length l.parts.lists ≤ l.at;
  size : l.parts.size ≡ l.size;
  parts : l.parts.lists ≡ different (map (picked l.picks) (take l.at l.states.lists));
  column : l.column.items ≡ take l.at (column_by (picked l.picks) l.states.lists);
}
