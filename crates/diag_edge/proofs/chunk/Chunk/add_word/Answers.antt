use Rattle.std.proofs.Common.{[], ◌∷◌, ◌++◌, codes, ap, ◌∙◌, append_assoc}
use Rattle.diag_edge.proofs.Added.{adds_first, grown_here, grown_more}
use Rattle.diag_edge.proofs.chunk.Chunk.add_word.Goals as goal

pub returns-in_err-make_room-clause-bytes : goal.returns-in_err-make_room-clause-bytes
returns-in_err-make_room-clause-bytes g c = adds_first _ _ _ _ _ [] (32 ∷ c.args.word.now) c.from_residual.ensures.0 c.in_err-make_room.ensures.bytes

pub returns-clause-bytes : goal.returns-clause-bytes
returns-clause-bytes g c =
    grown_more _ _ _ _ _ _ [] (32 ∷ c.args.word.now) c.in_ok-make_room.ensures.bytes
    (grown_here _ _ _ _ (c.push.ensures ∙ ap (λ bytes. bytes ++ c.args.word.now) c.push_byte.ensures ∙ append_assoc _ (codes " ") c.args.word.now))
