use Rattle.std.proofs.Common.{◌≡◌, map, drop, []}
use Rattle.bench_reader.specs.inner.Lines.{with_number}
use Rattle.bench_reader.specs.inner.Steps.{signals_from, signals_in}
use Rattle.bench_reader.proofs.signals.signals_of.Given as goal

abbrev pub invariant-loop-numbered : goal.invariant-loop-numbered
invariant-loop-numbered l =
    signals_from [] (map with_number l.statements) ≡ signals_from (signals_in l.signals) (map with_number (drop l.numbered-index l.statements))
