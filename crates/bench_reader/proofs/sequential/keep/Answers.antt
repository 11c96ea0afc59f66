use Rattle.std.proofs.Common.{arith}
use Rattle.bench_reader.proofs.FlipFlops.{kept-insert}
use Rattle.bench_reader.proofs.sequential.keep.Goals as goal

pub returns-in_ok-insert : goal.returns-in_ok-insert
returns-in_ok-insert c = λ name. grind (arith, kept-insert c.args.outputs.now.keys c.in-Gate.output name, c.in_ok-insert.ensures.keys)
