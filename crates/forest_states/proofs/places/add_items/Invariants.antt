use Rattle.std.proofs.Common.{◌≡◌, ◌++◌, take, map}
use Rattle.forest_states.specs.inner.Descents.{row_at}
use Rattle.forest_states.proofs.places.add_items.Given as goal

abbrev pub invariant-loop-column : goal.invariant-loop-column
invariant-loop-column l = l.row.items ≡ l.fn.row.items ++ row_at (map (λ v. v.items) (take l.column-index l.columns)) l.at
