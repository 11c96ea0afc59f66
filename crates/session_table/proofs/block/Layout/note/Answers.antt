use Rattle.std.proofs.Common.{◌+◌, ◌<◌, arith}
use Rattle.session_table.proofs.NotedEvidence.{noted-laid}
use Rattle.session_table.proofs.block.Layout.note.Goals as goal

pub returns-clause-block : goal.returns-clause-block
returns-clause-block c =
    let within : c.match-what.first + c.args.place < c.args.self.parts + c.args.self.wires = grind arith in
    rw c.word_of_known.ensures (noted-laid c.args.self c.args.block.now c.requires.block c.args.known _ within)
