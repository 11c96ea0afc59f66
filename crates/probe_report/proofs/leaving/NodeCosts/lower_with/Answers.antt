use Rattle.std.proofs.Common.{refl, arith}
use Rattle.minimiser.proofs.OnePass.{the_node, literal_at}
use Rattle.probe_report.proofs.Marks.{literal-more, literal-same, literal-all}
use Rattle.probe_report.proofs.leaving.NodeCosts.lower_with.Goals as goal
use Rattle.probe_report.proofs.leaving.NodeCosts.lower_with.Goals.{in-Literal+then-positive-bit, in-Literal+else-positive-bit, in_default}

pub lower_wire-requires : goal.lower_wire-requires
lower_wire-requires c = (literal_at _ _ _ _ _ c.in-Literal.ensures.valid (the_node c.args.self.now.graph.now.nodes _ _ _ (omega arith) c.in-Literal.ensures.what refl)).0

pub loop-at-preserved : goal.loop-at-preserved
loop-at-preserved c i h =
    let before = c.loop-at.invariant i (omega arith) in
    elim c.match-what.branch [
      | in-Literal+then-positive-bit w ↦ rw w.list-is (literal-more _ _ _ _ _ _ _ _ _ _ (omega arith) before w.in-Literal.ensures.what (grind arith) (w.lower_wire.ensures i (omega arith)))
      | in-Literal+else-positive-bit w ↦ rw w.list-is (literal-same _ _ _ _ _ _ _ before (grind arith))
      | in_default w ↦ rw w.list-is (literal-same _ _ _ _ _ _ _ before (grind arith))
    ]

pub returns : goal.returns
returns c i h = literal-all _ _ _ _ _ _ _ (omega arith) (c.loop-at.invariant i (omega arith))
