use Rattle.std.proofs.Common.{◌≡◌, length, subst, arith}
use Rattle.level_lister.specs.inner.NodeSets.{IsNodeSet, AreNodeSets}
use Rattle.level_lister.proofs.Stacks.{sets_more, sets_before}
use Rattle.level_lister.proofs.search.Asked.put_sets.Goals as goal

pub put_set-requires-clause-earlier : goal.put_set-requires-clause-earlier
put_set-requires-clause-earlier c =
    let graph = c.args.self.now.graph.now in
    let front = c.split_at_mut-earlier.result.0.now in
    let size : length c.args.spare.now ≡ length c.split_at_mut-set.result.0.now = omega (arith, c.split_at_mut-set.ensures.front_len) in
    subst (λ n. AreNodeSets graph c.args.self.now.skips.now c.args.self.now.evidence.now c.args.self.now.levels.now.costs n front c.loop-at.at) size
    (sets_before (IsNodeSet graph c.args.self.now.skips.now c.args.self.now.evidence.now c.args.self.now.levels.now.costs) (length c.args.spare.now) c.loop-at.sets front c.split_at_mut-earlier.result.1.now c.loop-at.at c.split_at_mut-earlier.ensures.value c.split_at_mut-earlier.ensures.front_len c.loop-at.invariant.sets)

pub loop-at-preserved : goal.loop-at-preserved
loop-at-preserved c =
    let graph = c.args.self.now.graph.now in
    let front = c.split_at_mut-earlier.result.0.now in
    let back = c.split_at_mut-set.result.1.now in record {
      sets = sets_more (IsNodeSet graph c.args.self.now.skips.now c.args.self.now.evidence.now c.args.self.now.levels.now.costs) (length c.args.spare.now) front c.put_set.new.set back c.loop-at.at c.split_at_mut-earlier.ensures.front_len
          (omega (arith, c.split_at_mut-set.ensures.front_len))
          (sets_before (IsNodeSet graph c.args.self.now.skips.now c.args.self.now.evidence.now c.args.self.now.levels.now.costs) (length c.args.spare.now) c.loop-at.sets front c.split_at_mut-earlier.result.1.now c.loop-at.at c.split_at_mut-earlier.ensures.value c.split_at_mut-earlier.ensures.front_len c.loop-at.invariant.sets)
          c.put_set.ensures;
      end = c.loop-at.invariant.end;
    }
