use Rattle.std.proofs.Common.{◌≡◌, map}
use Rattle.node_store.specs.inner.Keeping.{shown}
use Rattle.node_store.specs.Stores.{EachOnce, literals}
use Rattle.node_store.proofs.store.Store.new.Given as goal

abbrev pub invariant-loop-before : goal.invariant-loop-before
invariant-loop-before l = record {
  all : map shown l.nodes.keys ≡ literals l.before;
  once : EachOnce (map shown l.nodes.keys);
}
