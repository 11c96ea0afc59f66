use Rattle.std.proofs.Common.{◌≡◌, drop, fold}
use Rattle.flattener.specs.inner.Counting.{added, counts_of_used, counts_of_block}
use Rattle.flattener.proofs.counting.Counts.of_block.Given as goal

-- the rest completes it
abbrev pub invariant-loop-used : goal.invariant-loop-used
invariant-loop-used l =
    fold (λ counts used. added counts (counts_of_used l.above used)) l.counts (drop l.used-index l.block.parts)
    ≡ counts_of_block l.block l.above
