use Rattle.std.proofs.Common.{◌≡◌, length}
use Rattle.nnf_text.proofs.ColumnWords.{IsMarked}
use Rattle.nnf_text.proofs.sharing.mark.Given as goal

-- the nodes before this one are marked
abbrev pub invariant-loop-i : goal.invariant-loop-i
invariant-loop-i l = record { marked : IsMarked l.nodes l.variables l.i l.column; end : l.i-end ≡ length l.nodes }
