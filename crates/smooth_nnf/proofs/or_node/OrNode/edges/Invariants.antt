use Rattle.std.proofs.Common.{◌≡◌, ◌*◌, ◌^◌, ◌≤◌, take}
use Rattle.std.specs.Prelude.{sum_by}
use Rattle.smooth_nnf.specs.inner.Texts.{child_edges}
use Rattle.smooth_nnf.proofs.or_node.OrNode.edges.Given as goal

-- the edges of the children so far
abbrev pub invariant-loop-child : goal.invariant-loop-child
invariant-loop-child l = record {
  total : l.total ≡ sum_by (child_edges l.self.drawing.now l.self.node l.self.cost) (take l.child-index l.kids);
  most : l.total ≤ l.child-index * 2 ^ 32;
}
