use Rattle.std.proofs.Common.{◌≡◌, ◌≤◌, List, map, length, reverse, true}
use Rattle.elimination_forests.specs.declared.forks.Forks.{Forks}
use Rattle.elimination_forests.specs.Forests.{Forest, steps_of, is_forest_of, leads_on}
use Rattle.forest_states.specs.inner.Descents.{stand_of}
use Rattle.forest_states.proofs.WayDown.{Way}
use Rattle.forest_states.proofs.descent.go_along.Given as goal

abbrev pub invariant-loop-at : goal.invariant-loop-at
invariant-loop-at l = record {
  within : l.frontier.sum ≤ l.top;
  size : length l.frontier.seen.items ≡ length l.of.items;
  same : length l.frontier.numbers.items ≡ length l.of.items;
  way : (forest : Forest) → l.steps ≡ steps_of forest → is_forest_of forest l.cnf ≡ true
      → (found : List Forks) × (l.keep ≡ true → l.forks.items ≡ found) × (l.leads_on ≡ leads_on found) × Way l.weight l.steps l.cnf.clauses forest l.at l.frontier.seen.items found l.frontier.sum (reverse (map stand_of l.frontier.pending.items));
}
