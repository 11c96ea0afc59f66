use Rattle.std.proofs.Common.{◌∷◌, take}
use Rattle.std.specs.Prelude.{decimal, slice_index}
use Rattle.std.specs.List.{flat_map}
use Rattle.nnf_text.specs.Extending.{Extends}
use Rattle.smooth_nnf.proofs.lines.add_and.Given as goal

-- the children before this one were added
abbrev pub invariant-loop-child : goal.invariant-loop-child
invariant-loop-child g l =
    let O = g.O.Sink in
    Extends (O.shown l.initial.out) (O.shown l.out) l.initial.text l.text (flat_map (λ child. 32 ∷ decimal (slice_index l.drawing.lines child)) (take l.child-index l.kids))
