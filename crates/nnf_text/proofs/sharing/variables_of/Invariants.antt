use Rattle.std.proofs.Common.{◌≡◌, ℕ, ◌<◌, Bool, length}
use Rattle.std.specs.List.{Contains}
use Rattle.state_rules.specs.declared.nodes.NodeKind.TheVariants.{Literal}
use Rattle.state_rules.specs.Graphs.{node_at}
use Rattle.nnf_text.proofs.sharing.variables_of.Given as goal

-- those of the literals before this node are there
abbrev pub invariant-loop-node : goal.invariant-loop-node
invariant-loop-node l = record {
  all : (k var : ℕ) (positive : Bool) → k < l.node → (node_at l.nodes k).what ≡ Literal positive var → Contains l.variables.items var;
  end : l.node-end ≡ length l.nodes;
}
