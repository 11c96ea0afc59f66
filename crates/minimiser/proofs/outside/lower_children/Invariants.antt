use Rattle.std.proofs.Common.{◌≡◌, ℕ, ◌+◌, ◌<◌, take, length, get_or}
use Rattle.minimiser.specs.inner.Swept.{is_child}
use Rattle.minimiser.specs.inner.Outside.{lowered, others_cost}
use Rattle.minimiser.proofs.outside.lower_children.Given as goal

abbrev pub invariant-loop-k : goal.invariant-loop-k
invariant-loop-k l = (j : ℕ) → j < length l.outside → get_or l.outside j 0 ≡ lowered (is_child (take l.k-index l.kids) j) (l.rest + others_cost l.what l.own (get_or l.values j 0)) (get_or l.fn.outside j 0)
