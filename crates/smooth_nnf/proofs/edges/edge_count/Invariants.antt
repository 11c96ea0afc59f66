use Rattle.std.proofs.Common.{◌≡◌, ◌+◌, length, take}
use Rattle.std.specs.List.{flat_map, enumerate_from}
use Rattle.state_rules.specs.Graphs.{edges}
use Rattle.smooth_nnf.specs.Layouts.{last_line, node_lines}
use Rattle.smooth_nnf.specs.inner.Drawings.{shown}
use Rattle.smooth_nnf.proofs.edges.edge_count.Given as goal

-- the edges of the last line and of the nodes before a place
abbrev pub invariant-loop-node : goal.invariant-loop-node
invariant-loop-node l =
    l.total ≡ edges (flat_map (node_lines (shown l.drawing)) (take l.node (enumerate_from 0 l.drawing.graph.nodes))) + length (last_line (shown l.drawing)).kids
