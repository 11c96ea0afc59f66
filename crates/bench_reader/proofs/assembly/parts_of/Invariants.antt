use Rattle.std.proofs.Common.{◌≡◌, ◌++◌, map, drop, true}
use Rattle.std.specs.List.{flat_map, list_all}
use Rattle.std.specs.Map.{keys_of}
use Rattle.device_model.specs.Building.{joined}
use Rattle.bench_reader.specs.Netlists.{part_of}
use Rattle.bench_reader.specs.inner.Lines.{unnumbered}
use Rattle.bench_reader.specs.inner.Steps.{is_faultless, signals_in}
use Rattle.bench_reader.proofs.assembly.parts_of.Given as goal

abbrev pub invariant-loop-numbered : goal.invariant-loop-numbered
invariant-loop-numbered l =
    let shown = joined (keys_of (signals_in l.signals)) in
    (list_all is_faultless (map unnumbered (drop l.numbered-index l.statements)) ≡ true)
    × (map shown (flat_map part_of (map unnumbered l.statements)) ≡ l.parts.items ++ map shown (flat_map part_of (map unnumbered (drop l.numbered-index l.statements))))
