use Rattle.std.proofs.Common.{◌≡◌, map, drop}
use Rattle.std.specs.Map.{keys_of}
use Rattle.bench_reader.specs.inner.Lines.{with_number}
use Rattle.bench_reader.specs.inner.Steps.{first_undriven, signals_in}
use Rattle.bench_reader.proofs.signals.first_undriven.Given as goal

abbrev pub invariant-loop-numbered : goal.invariant-loop-numbered
invariant-loop-numbered l =
    let driven = keys_of (signals_in l.signals) in
    first_undriven driven (map with_number l.statements) ≡ first_undriven driven (map with_number (drop l.numbered-index l.statements))
