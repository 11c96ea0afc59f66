use Rattle.std.proofs.Common.{refl}
use Rattle.diag_edge.proofs.Added.{put_all}
use Rattle.diag_edge.proofs.chunk.put_line.Goals as goal

pub returns-clause-bytes : goal.returns-clause-bytes
returns-clause-bytes g c = put_all _ _ _ c.new-chunk.result _ _ _ _ c.new-chunk.ensures refl c.in_ok-add_line.ensures.bytes c.put.ensures.bytes
