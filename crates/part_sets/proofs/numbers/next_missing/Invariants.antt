use Rattle.std.proofs.Common.{◌≡◌, ◌⊎◌, ℕ, ◌-◌, ◌*◌, ◌<◌, ◌≤◌, false, not, ◌&&◌, length}
use Rattle.part_sets.specs.Numbers.{has_number}
use Rattle.part_sets.proofs.numbers.next_missing.Given as goal

-- none of those before the place is missing
abbrev pub invariant-loop-at : goal.invariant-loop-at
invariant-loop-at l = record {
  from : l.from ≤ l.at;
  most : (l.at ≡ l.from) ⊎ (l.at ≤ 32 * length l.outer);
  none : (p : ℕ) → l.from ≤ p → p < l.at → (has_number l.outer p && not (has_number l.inner p)) ≡ false;
}

abbrev pub decreases-loop-at : goal.decreases-loop-at
decreases-loop-at l = 32 * length l.outer - l.at
