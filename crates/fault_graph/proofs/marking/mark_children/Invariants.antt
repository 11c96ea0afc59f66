use Rattle.std.proofs.Common.{◌≡◌, ℕ, ◌<◌, take, length, get_or}
use Rattle.fault_graph.specs.inner.Marks.{mark_of}
use Rattle.fault_graph.proofs.marking.mark_children.Given as goal

abbrev pub invariant-loop-k : goal.invariant-loop-k
invariant-loop-k l = (j : ℕ) → j < length l.places → get_or l.places j 0 ≡ mark_of (take l.k-index l.kids) l.values l.cost j (get_or l.fn.places j 0)
