use Rattle.std.proofs.Common.{◌≡◌, ◌*◌, length, ◌∙◌, ap, arith}
use Rattle.level_lister.specs.Listing.{cost_words}
use Rattle.level_lister.specs.inner.FaultSets.{IsNodeFaults}
use Rattle.level_lister.proofs.Stacks.{sets_more, sets_before}
use Rattle.level_lister.proofs.fault_pass.FaultPass.put_faults.Goals as goal

pub put_node-requires-clause-earlier : goal.put_node-requires-clause-earlier
put_node-requires-clause-earlier c =
    sets_before (IsNodeFaults c.args.self.now.graph.now c.args.self.now.skips.now c.args.self.now.evidence.now c.args.self.now.levels.now.costs c.args.self.now.groups) (cost_words c.args.self.now.levels.now.top)
    c.loop-at.faults c.split_at_mut-earlier.result.0.now c.split_at_mut-earlier.result.1.now c.loop-at.at c.split_at_mut-earlier.ensures.value
    (c.split_at_mut-earlier.ensures.front_len ∙ ap (λ n. c.loop-at.at * n) c.size-size.ensures) c.loop-at.invariant.faults

pub loop-at-preserved : goal.loop-at-preserved
loop-at-preserved c =
    let Is = IsNodeFaults c.args.self.now.graph.now c.args.self.now.skips.now c.args.self.now.evidence.now c.args.self.now.levels.now.costs c.args.self.now.groups in
    let front = c.split_at_mut-earlier.result.0.now in
    let long : length c.split_at_mut-earlier.result.0.now ≡ c.loop-at.at * cost_words c.args.self.now.levels.now.top = c.split_at_mut-earlier.ensures.front_len ∙ ap (λ n. c.loop-at.at * n) c.size-size.ensures in record {
      faults = sets_more Is (cost_words c.args.self.now.levels.now.top) front c.put_node.new.set c.split_at_mut-set.result.1.now c.loop-at.at long (omega (arith, c.split_at_mut-set.ensures.front_len, c.size-size.ensures))
          (sets_before Is (cost_words c.args.self.now.levels.now.top) c.loop-at.faults front c.split_at_mut-earlier.result.1.now c.loop-at.at c.split_at_mut-earlier.ensures.value long c.loop-at.invariant.faults)
          c.put_node.ensures;
      end = c.loop-at.invariant.end;
    }
