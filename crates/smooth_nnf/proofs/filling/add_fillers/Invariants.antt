use Rattle.std.specs.List.{flat_map, range_with_len}
use Rattle.nnf_text.specs.Extending.{Extends}
use Rattle.smooth_nnf.specs.inner.Texts.{word_text}
use Rattle.smooth_nnf.proofs.filling.add_fillers.Given as goal

-- the lines of the words before this one were added
abbrev pub invariant-loop-word : goal.invariant-loop-word
invariant-loop-word g l =
    let O = g.O.Sink in
    Extends (O.shown l.fn.out) (O.shown l.out) l.fn.text l.text (flat_map (word_text l.drawing l.node l.over) (range_with_len 0 l.word))
