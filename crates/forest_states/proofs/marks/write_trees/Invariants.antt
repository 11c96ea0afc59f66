use Rattle.std.proofs.Common.{◌≡◌, ◌≤◌, ◌+◌, ◌*◌, drop, length}
use Rattle.forest_states.specs.inner.Descents.{numbered}
use Rattle.forest_states.proofs.marks.write_trees.Given as goal

abbrev pub invariant-loop-step : goal.invariant-loop-step
invariant-loop-step l = record {
  few : l.left ≤ 4294967296 * (l.step-index + 1);
  long : length l.numbers.items ≡ length l.initial.numbers.items;
  numbers : numbered l.trees l.begun l.left (drop l.step-index l.steps) l.numbers.items ≡ numbered l.trees 0 l.trees l.steps l.initial.numbers.items;
}
