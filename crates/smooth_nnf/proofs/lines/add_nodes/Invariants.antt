use Rattle.std.proofs.Common.{take}
use Rattle.std.specs.List.{flat_map, enumerate_from}
use Rattle.nnf_text.specs.Extending.{Extends}
use Rattle.smooth_nnf.specs.Layouts.{node_lines}
use Rattle.smooth_nnf.specs.inner.Drawings.{shown}
use Rattle.smooth_nnf.specs.inner.Texts.{lines_text}
use Rattle.smooth_nnf.proofs.lines.add_nodes.Given as goal

-- the lines of the nodes before this one were added
abbrev pub invariant-loop-node : goal.invariant-loop-node
invariant-loop-node g l =
    let O = g.O.Sink in
    Extends (O.shown l.fn.out) (O.shown l.out) l.fn.text l.text (flat_map (λ x. lines_text (node_lines (shown l.drawing) x)) (take l.node (enumerate_from 0 l.drawing.graph.nodes)))
