use Rattle.std.proofs.Common.{take, drop, arith}
use Rattle.std.proofs.lemmas.Grind.{common_steps}
use Rattle.diag_edge.proofs.mem_sink.MemSinkSink.put.Goals as goal

pub returns-then-named-clause-bytes : goal.returns-then-named-clause-bytes
returns-then-named-clause-bytes c =
    let kept = c.min-kept.result in
    (take kept c.args.bytes.now, drop kept c.args.bytes.now, grind (arith, common_steps), grind (arith, common_steps))
