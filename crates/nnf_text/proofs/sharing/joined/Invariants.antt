use Rattle.std.proofs.Common.{take}
use Rattle.nnf_text.specs.inner.Sharing.{IsJoined}
use Rattle.nnf_text.proofs.sharing.joined.Given as goal

-- the words of the children before the place are joined
abbrev pub invariant-loop-child : goal.invariant-loop-child
invariant-loop-child l = IsJoined l.column (take l.child-index l.kids) l.any l.twice
