use Rattle.std.proofs.Common.{arith, drop, drop-drop, take-append-drop}
use Rattle.std.proofs.lemmas.Grind.{common_steps}
use Rattle.diag_edge.proofs.copying.copy_from.Goals as goal

pub returns-clause-copied : goal.returns-clause-copied
returns-clause-copied c =
    let rest = drop c.args.at c.args.bytes.now in
    grind (arith, common_steps, drop-drop c.min-count.result c.args.at c.args.bytes.now, take-append-drop c.min-count.result rest)
