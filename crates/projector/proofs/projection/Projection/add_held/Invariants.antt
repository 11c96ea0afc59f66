use Rattle.std.proofs.Common.{take}
use Rattle.std.specs.List.{flat_map, enumerate_from}
use Rattle.nnf_text.specs.Extending.{Extends}
use Rattle.conditioner.specs.Evidence.{known}
use Rattle.projector.specs.inner.Lines.{held_line}
use Rattle.projector.proofs.projection.Projection.add_held.Given as goal

-- the lines of the parts before this one were added
abbrev pub invariant-loop-i : goal.invariant-loop-i
invariant-loop-i g l =
    let O = g.O.Sink in
    Extends (O.shown l.fn.out) (O.shown l.out) l.fn.text l.text (flat_map held_line (take l.i (enumerate_from 1 (known l.health))))
