use Rattle.std.proofs.Common.{◌≡◌, ◌++◌, ◌-◌, map}
use Rattle.std.specs.List.{range_with_len}
use Rattle.forest_states.specs.inner.Descents.{column_at, stand_part, stand_of}
use Rattle.forest_states.proofs.places.go_apart.Given as goal

abbrev pub invariant-loop-behind : goal.invariant-loop-behind
invariant-loop-behind l = record {
  columns : map (λ v. v.items) l.columns.items
      ≡ map (λ i. column_at l.cnf.clauses l.trees l.seen l.numbers (l.trees - 1 - i) (stand_of l.base)) (range_with_len 0 l.behind);
  pending : map stand_of l.pending.items ≡ map stand_of l.initial.pending.items
      ++ map (λ i. stand_part l.cnf.clauses l.trees l.seen l.numbers (l.trees - 1 - i) (stand_of l.base)) (range_with_len 0 l.behind);
}
