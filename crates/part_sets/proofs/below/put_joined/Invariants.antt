use Rattle.std.proofs.Common.{◌≡◌, ℕ, ◌*◌, ◌<◌, take, length}
use Rattle.std.specs.List.{list_any}
use Rattle.part_sets.specs.Numbers.{has_number, set_at}
use Rattle.part_sets.proofs.below.put_joined.Given as goal

-- the numbers of the sets before the place
abbrev pub invariant-loop-child : goal.invariant-loop-child
invariant-loop-child l = (n : ℕ) → n < 32 * length l.set → has_number l.set n ≡ list_any (λ k. has_number (set_at l.sets k (length l.set)) n) (take l.child-index l.kids)
