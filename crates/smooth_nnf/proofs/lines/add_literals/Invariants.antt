use Rattle.std.specs.List.{flat_map, range_with_len}
use Rattle.nnf_text.specs.Extending.{Extends}
use Rattle.smooth_nnf.specs.Layouts.{literal_pair}
use Rattle.smooth_nnf.specs.inner.Texts.{lines_text}
use Rattle.smooth_nnf.proofs.lines.add_literals.Given as goal

-- the lines of the parts before this one were added
abbrev pub invariant-loop-i : goal.invariant-loop-i
invariant-loop-i g l =
    let O = g.O.Sink in
    Extends (O.shown l.fn.out) (O.shown l.out) l.fn.text l.text (flat_map (λ part. lines_text (literal_pair part)) (range_with_len 1 l.i))
