use Rattle.std.proofs.Common.{◌≡◌, length, take}
use Rattle.smooth_nnf.specs.inner.Drawings.{set_parts}
use Rattle.smooth_nnf.proofs.drawing.count_parts.Given as goal

-- the count of the words so far
abbrev pub invariant-loop-word : goal.invariant-loop-word
invariant-loop-word l = l.count ≡ length (set_parts 0 (take l.word-index l.set))
