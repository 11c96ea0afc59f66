use Rattle.std.proofs.Common.{◌∷◌, refl}
use Rattle.diag_edge.proofs.Added.{each_part}
use Rattle.diag_edge.proofs.chunk.Chunk.add_words.Goals as goal

pub returns-in_err-add_word-clause-bytes : goal.returns-in_err-add_word-clause-bytes
returns-in_err-add_word-clause-bytes g c =
    each_part (λ w. 32 ∷ w.now) c.args.words.now c.loop-word.word-index _ _ _ _ _ _ _ _ _
    c.from_residual.ensures.0 c.loop-word-test.true refl c.loop-word.invariant.added c.in_err-add_word.ensures.bytes
