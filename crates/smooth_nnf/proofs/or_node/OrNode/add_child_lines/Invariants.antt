use Rattle.std.proofs.Common.{take}
use Rattle.std.specs.List.{flat_map}
use Rattle.nnf_text.specs.Extending.{Extends}
use Rattle.smooth_nnf.specs.inner.Texts.{child_text}
use Rattle.smooth_nnf.proofs.or_node.OrNode.add_child_lines.Given as goal

-- the lines of the children before this one were added
abbrev pub invariant-loop-child : goal.invariant-loop-child
invariant-loop-child g l =
    let O = g.O.Sink in
    Extends (O.shown l.fn.out) (O.shown l.out) l.fn.text l.text (flat_map (child_text l.self.drawing.now l.self.node l.self.cost) (take l.child-index l.kids))
