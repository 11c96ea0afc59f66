use Rattle.std.proofs.Common.{codes}
use Rattle.diag_edge.proofs.Added.{adds_first, adds_second}
use Rattle.diag_edge.proofs.chunk.Chunk.add_apart.Goals as goal

pub returns-in_err-add-clause-bytes : goal.returns-in_err-add-clause-bytes
returns-in_err-add-clause-bytes g c = adds_first _ _ _ _ _ (codes " ") c.args.word.now c.from_residual.ensures.0 c.in_err-add.ensures.bytes

pub returns-clause-bytes : goal.returns-clause-bytes
returns-clause-bytes g c = adds_second _ _ _ _ _ _ _ (codes " ") c.args.word.now c.in_ok-add.ensures.bytes c.add-2.ensures.bytes
