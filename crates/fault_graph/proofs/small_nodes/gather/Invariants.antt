use Rattle.std.proofs.Common.{◌≡◌, ◌++◌, ◌+◌, ◌-◌, ◌≤◌, drop, length}
use Rattle.std.specs.Vec.{vec_len, vec_capacity}
use Rattle.fault_graph.specs.inner.Rows.{kept_children}
use Rattle.fault_graph.proofs.small_nodes.gather.Given as goal

-- what was added so far, and the children that are left
abbrev pub invariant-loop-k : goal.invariant-loop-k
invariant-loop-k l = record {
  kept : l.all.items ++ kept_children l.values l.places l.cost (drop l.k-index l.kids) ≡ l.fn.all.items ++ kept_children l.values l.places l.cost l.kids;
  room : vec_len l.all + (length l.kids - l.k-index) ≤ vec_capacity l.all;
  more : vec_capacity l.fn.all ≤ vec_capacity l.all;
}
