use Rattle.diag_edge.proofs.Added.{line_first, adds_same}
use Rattle.diag_edge.proofs.chunk.add_line.Goals as goal

pub returns-in-len1-up-clause-bytes : goal.returns-in-len1-up-clause-bytes
returns-in-len1-up-clause-bytes g c =
    adds_same _ _ _ _ _ _ _ (line_first c.args.words.now _ c.in-len1-up.len_at_least) c.add_first.ensures.bytes
