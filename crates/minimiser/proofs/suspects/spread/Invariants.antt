use Rattle.std.proofs.Common.{◌≡◌, ℕ, ◌<◌, take, length, get_or}
use Rattle.minimiser.specs.inner.Swept.{spread_value}
use Rattle.minimiser.proofs.suspects.spread.Given as goal

abbrev pub invariant-loop-k : goal.invariant-loop-k
invariant-loop-k l = (j : ℕ) → j < length l.values → get_or l.values j 0 ≡ spread_value (take l.k-index l.kids) l.cost j (get_or l.fn.values j 0)
