use Rattle.std.proofs.Common.{refl}
use Rattle.diag_edge.proofs.Added.{passed_first, passed_on}
use Rattle.diag_edge.proofs.chunk.Chunk.pass_on.Goals as goal

pub returns-in_err-put-clause-bytes : goal.returns-in_err-put-clause-bytes
returns-in_err-put-clause-bytes g c = passed_first _ _ _ _ _ c.args.text.now c.from_residual.ensures.0 c.in_err-put.ensures.bytes

pub returns-clause-bytes : goal.returns-clause-bytes
returns-clause-bytes g c = passed_on _ _ _ _ _ _ c.args.text.now refl c.in_ok-put.ensures.bytes c.put-2.ensures.bytes
