use Rattle.std.proofs.Common.{[]}
use Rattle.diag_edge.proofs.Added.{adds_first, grown_here, grown_more}
use Rattle.diag_edge.proofs.chunk.Chunk.add.Goals as goal

pub returns-in_err-make_room-clause-bytes : goal.returns-in_err-make_room-clause-bytes
returns-in_err-make_room-clause-bytes g c = adds_first _ _ _ _ _ [] c.args.text.now c.from_residual.ensures.0 c.in_err-make_room.ensures.bytes

pub returns-clause-bytes : goal.returns-clause-bytes
returns-clause-bytes g c = grown_more _ _ _ _ _ _ [] c.args.text.now c.in_ok-make_room.ensures.bytes (grown_here _ _ _ _ c.push.ensures)
