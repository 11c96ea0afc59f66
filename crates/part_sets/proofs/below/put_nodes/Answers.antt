use Rattle.std.proofs.Common.{arith}
use Rattle.scratch_pool.proofs.Counted.{block-below}
use Rattle.part_sets.proofs.JoinedSets.{below_more}
use Rattle.part_sets.proofs.Stacks.{set_at-front}
use Rattle.part_sets.proofs.below.put_nodes.Goals as goal

pub put_node-requires-clause-earlier : goal.put_node-requires-clause-earlier
put_node-requires-clause-earlier c k lt p = grind (arith, block-below, set_at-front, c.loop-at.invariant.sets k lt p)

pub loop-at-preserved : goal.loop-at-preserved
loop-at-preserved c = record {
  sets = below_more c.args.graph.now c.args.parts c.loop-at.below c.split_at_mut-earlier.result.0.now c.split_at_mut-earlier.result.1.now c.put_node.new.set c.split_at_mut-set.result.1.now c.loop-at.at c.split_at_mut-earlier.ensures.value
      (grind arith) (grind arith) c.loop-at.invariant.sets c.put_node.ensures;
  end = c.loop-at.invariant.end;
}
