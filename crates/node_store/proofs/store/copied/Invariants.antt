use Rattle.std.proofs.Common.{map}
use Rattle.node_store.specs.inner.Keeping.{shown}
use Rattle.node_store.specs.inner.Freezing.{IsCopied}
use Rattle.node_store.proofs.store.copied.Given as goal

abbrev pub invariant-loop-at : goal.invariant-loop-at
invariant-loop-at l = IsCopied l.vars (map shown l.nodes) l.below l.copies l.numbers.items l.at
