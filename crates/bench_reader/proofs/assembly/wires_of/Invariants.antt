use Rattle.std.proofs.Common.{◌≡◌, ◌++◌, map, true}
use Rattle.std.specs.List.{list_all}
use Rattle.std.specs.Map.{keys_of}
use Rattle.text_rules.specs.Names.{is_short_name}
use Rattle.bench_reader.specs.inner.Steps.{signals_in}
use Rattle.bench_reader.proofs.assembly.wires_of.Given as goal

abbrev pub invariant-loop-signal : goal.invariant-loop-signal
invariant-loop-signal l =
    (list_all is_short_name (map (λ k. k.now) l.signal-iterator) ≡ true)
    × (keys_of (signals_in l.signals) ≡ l.wires.items ++ map (λ k. k.now) l.signal-iterator)
