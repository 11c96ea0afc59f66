use Rattle.std.proofs.Common.{◌≡◌, ◌⊎◌, ℕ, ◌+◌, true, length, map}
use Rattle.state_rules.specs.Bits.{bit_in}
use Rattle.node_store.specs.inner.Keeping.{shown}
use Rattle.node_store.specs.inner.Freezing.{IsClosedFrom, IsChildOfMarked}
use Rattle.node_store.proofs.store.below.Given as goal

abbrev pub invariant-loop-at : goal.invariant-loop-at
invariant-loop-at l = record {
  long : length l.below.items ≡ l.root + 1;
  has : bit_in l.below.items l.root ≡ true;
  closed : IsClosedFrom l.at (map shown l.nodes) l.below.items;
  only : (i : ℕ) → bit_in l.below.items i ≡ true → (i ≡ l.root) ⊎ IsChildOfMarked (map shown l.nodes) l.below.items i;
}
