use Rattle.std.proofs.Common.{◌≡◌, map, drop}
use Rattle.std.specs.Prelude.{◌||◌}
use Rattle.text_rules.specs.Names.{Name, is_among}
use Rattle.bench_reader.specs.SequentialNetlists.{flip_flops}
use Rattle.bench_reader.specs.inner.Lines.{with_number}
use Rattle.bench_reader.specs.inner.FlipFlops.{is_kept}
use Rattle.bench_reader.proofs.sequential.flip_flops.Given as goal

-- a name is kept or is among the flip-flops left
abbrev pub invariant-loop-numbered : goal.invariant-loop-numbered
invariant-loop-numbered l = (name : Name)
    → (is_kept l.outputs name || is_among (flip_flops (map with_number (drop l.numbered-index l.statements))) name)
    ≡ is_among (flip_flops (map with_number l.statements)) name
