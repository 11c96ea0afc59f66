use Rattle.std.proofs.Common.{◌≡◌, ℕ, ◌<◌, ◌≤◌, get_or}
use Rattle.level_lister.specs.inner.Skips.{skip_of}
use Rattle.level_lister.proofs.skipping.mark_dear.Given as goal

-- the outside costs before the place are marks
abbrev pub invariant-loop-k : goal.invariant-loop-k
invariant-loop-k l = record {
  met : (j : ℕ) → j < l.k → get_or l.outside j 0 ≡ skip_of l.top (get_or l.least j 0) (get_or l.fn.outside j 0);
  left : (j : ℕ) → l.k ≤ j → get_or l.outside j 0 ≡ get_or l.fn.outside j 0;
}
