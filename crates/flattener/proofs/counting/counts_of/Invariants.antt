use Rattle.std.proofs.Common.{◌≡◌, drop}
use Rattle.state_rules.specs.Values.{values_after, values}
use Rattle.flattener.specs.inner.Counting.{counts_of_block}
use Rattle.flattener.proofs.counting.counts_of.Given as goal

-- the rest completes it
abbrev pub invariant-loop-block : goal.invariant-loop-block
invariant-loop-block l = values_after counts_of_block l.counts.items (drop l.block-index l.blocks) ≡ values counts_of_block l.blocks
