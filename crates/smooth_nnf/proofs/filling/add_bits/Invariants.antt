use Rattle.std.specs.List.{flat_map, range_with_len}
use Rattle.nnf_text.specs.Extending.{Extends}
use Rattle.smooth_nnf.specs.inner.Texts.{bit_text}
use Rattle.smooth_nnf.proofs.filling.add_bits.Given as goal

-- the lines of the bits before this one were added
abbrev pub invariant-loop-b : goal.invariant-loop-b
invariant-loop-b g l =
    let O = g.O.Sink in
    Extends (O.shown l.fn.out) (O.shown l.out) l.fn.text l.text (flat_map (bit_text l.drawing.evidence l.word l.bits) (range_with_len 0 l.b))
