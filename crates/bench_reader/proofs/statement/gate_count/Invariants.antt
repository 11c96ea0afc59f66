use Rattle.std.proofs.Common.{◌≡◌, ◌+◌, ◌≤◌, drop, map, length}
use Rattle.std.specs.List.{flat_map}
use Rattle.bench_reader.specs.Signals.{driven_by_gate}
use Rattle.bench_reader.specs.inner.Lines.{unnumbered}
use Rattle.bench_reader.proofs.statement.gate_count.Given as goal

abbrev pub invariant-loop-numbered : goal.invariant-loop-numbered
invariant-loop-numbered l =
    (l.count ≤ l.numbered-index)
    × (length (flat_map driven_by_gate (map unnumbered l.statements)) ≡ l.count + length (flat_map driven_by_gate (map unnumbered (drop l.numbered-index l.statements))))
