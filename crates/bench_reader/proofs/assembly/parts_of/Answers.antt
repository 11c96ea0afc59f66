use Rattle.std.proofs.Common.{arith, append-nil}
use Rattle.std.specs.Map.{keys_of}
use Rattle.device_model.specs.Building.{joined}
use Rattle.bench_reader.specs.Netlists.{part_of}
use Rattle.bench_reader.specs.inner.Lines.{unnumbered}
use Rattle.bench_reader.specs.inner.Steps.{signals_in}
use Rattle.bench_reader.proofs.Lines.{faultless_rest, items-more}
use Rattle.bench_reader.proofs.assembly.parts_of.Goals as goal
use Rattle.bench_reader.proofs.assembly.parts_of.Goals.{in-Some+in_ok-push, in_default}

pub loop-numbered-preserved : goal.loop-numbered-preserved
loop-numbered-preserved c =
    let more = items-more part_of (joined (keys_of (signals_in c.args.signals.now))) unnumbered c.args.statements.now c.loop-numbered.numbered-index _ _ _ _ c.loop-numbered-test.true c.loop-numbered.invariant.1 c.in_ok-part.ensures in (
      faultless_rest unnumbered c.args.statements.now c.loop-numbered.numbered-index c.loop-numbered.invariant.0,
      elim c.match-branch-2.branch [
        | in-Some+in_ok-push w ↦ grind (arith, more, w.in-Some.is, w.in_ok-push.ensures.items)
        | in_default w ↦ grind (arith, more, append-nil)
      ],
    )
