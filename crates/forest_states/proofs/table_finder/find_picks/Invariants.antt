use Rattle.std.proofs.Common.{◌≡◌, take, map}
use Rattle.std.specs.List.{filter}
use Rattle.forest_states.specs.inner.Descents.{goes_to}
use Rattle.forest_states.proofs.table_finder.find_picks.Given as goal

abbrev pub invariant-loop-number : goal.invariant-loop-number
invariant-loop-number l = record {
  picks : l.picks ≡ map (goes_to l.cnf.clauses l.trees l.seen l.places l.tree) (take l.number-index l.numbers);
  kept : l.kept.items ≡ filter (goes_to l.cnf.clauses l.trees l.seen l.places l.tree) (take l.number-index l.numbers);
}
