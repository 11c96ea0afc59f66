use Rattle.std.proofs.Common.{◌+◌, ◌++◌, drop, get_or, sym, ◌∙◌, arith}
use Rattle.std.proofs.lemmas.List.{length-append}
use Rattle.forest_states.specs.inner.BitLists.{copied}
use Rattle.forest_states.proofs.Words.{length-copied}
use Rattle.forest_states.proofs.BitRuns.{none, flags-on, picked-next}
use Rattle.forest_states.proofs.picks.pick_row.Goals as goal

pub loop-run-preserved : goal.loop-run-preserved
loop-run-preserved c =
    let runs = c.args.runs.now in
    let k = c.loop-run.run-index in
    let r = get_or runs k none in
    record {
      short = omega (arith, flags-on runs c.args.last k none c.loop-run-test.true, c.loop-run.invariant.short);
      left = λ state w.
          let it = c.loop-run.invariant.left state w in
          let more = copied r.count (drop r.others it.1) in (
            it.0 ++ more,
            drop (r.others + r.count) it.1,
            omega (arith, length-append it.0 more, length-copied r.count (drop r.others it.1), it.2),
            c.pick_run-left.ensures it.0 it.1 it.2 it.3 it.4,
            c.later_bits-from.ensures it.1 it.4,
            sym (picked-next runs c.args.last k none c.loop-run-test.true it.0 it.1) ∙ it.5,
          );
    }
