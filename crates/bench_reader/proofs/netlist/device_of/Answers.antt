use Rattle.std.proofs.Common.{map, subst, arith}
use Rattle.std.specs.Map.{keys_of}
use Rattle.bench_reader.specs.inner.Lines.{with_number}
use Rattle.bench_reader.specs.inner.Steps.{AreFaultless, signals_in}
use Rattle.bench_reader.proofs.FirstFaults.{said-with_number, all_faultless}
use Rattle.bench_reader.proofs.netlist.device_of.Goals as goal

pub assemble-requires : goal.assemble-requires
assemble-requires c =
    let signals = signals_in c.in_ok-signals.signals in
    let same = said-with_number c.args.statements.now in
    subst (λ ss. AreFaultless ss (keys_of signals)) same
    (all_faultless (map with_number c.args.statements.now) signals c.in_ok-signals.ensures (cc) (grind (arith, same)) (grind (arith, same)))
