use Rattle.std.proofs.Common.{◌≡◌, ◌≤◌, ◌+◌, ◌-◌, drop, length}
use Rattle.std.specs.Prelude.{nat_lt}
use Rattle.std.specs.List.{prefix_len}
use Rattle.forest_states.proofs.table_finder.count_below.Given as goal

abbrev pub invariant-below : goal.invariant-below
invariant-below l = record {
  low : l.count ≤ length l.numbers;
  count : l.count + prefix_len (λ n. nat_lt n l.number) (drop l.count l.numbers) ≡ prefix_len (λ n. nat_lt n l.number) l.numbers;
}

abbrev pub decreases-below : goal.decreases-below
decreases-below l = length l.numbers - l.count
