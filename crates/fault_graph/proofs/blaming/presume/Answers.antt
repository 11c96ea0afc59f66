use Rattle.std.proofs.Common.{ℕ, get_or, arith}
use Rattle.fault_graph.specs.inner.Presumed.{presumed}
use Rattle.fault_graph.proofs.Written.{written-next}
use Rattle.fault_graph.proofs.blaming.presume.Goals as goal

pub loop-part-preserved : goal.loop-part-preserved
loop-part-preserved c =
    written-next c.loop-part.verdicts c.loop-part.part c.presumed.result (λ (k : ℕ). presumed (get_or c.args.evidence.now k 0) (get_or c.args.suspects.now k 0)) (omega arith) c.loop-part.invariant c.presumed.ensures
