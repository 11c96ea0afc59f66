use Rattle.std.proofs.Common.{◌≡◌, ◌*◌, length, ◌∙◌, subst, arith}
use Rattle.level_lister.specs.Listing.{cost_words}
use Rattle.level_lister.specs.inner.NodeSets.{IsNodeSet, AreNodeSets}
use Rattle.level_lister.proofs.Stacks.{sets_front}
use Rattle.level_lister.proofs.search.Asked.prepare.Goals as goal

pub returns-clause-ready : goal.returns-clause-ready
returns-clause-ready g c high =
    let graph = c.args.self.now.graph.now in
    let costs = c.args.self.now.levels.now.costs in
    let n = length graph.nodes in
    let size : length c.split_at_mut-spare.result.0.now ≡ cost_words c.args.self.now.levels.now.top = omega (arith, c.split_at_mut-spare.ensures.front_len, c.size-size.ensures) in
    let long : length c.put_sets.new.sets ≡ n * cost_words c.args.self.now.levels.now.top = c.put_sets.auto.sets ∙ c.split_at_mut-sets.ensures.front_len ∙ (λ i. c.len.ensures.len i * c.size-size.ensures i) in
    sets_front (IsNodeSet graph c.args.self.now.skips.now c.args.self.now.evidence.now costs) (cost_words c.args.self.now.levels.now.top) c.put_sets.new.sets _ n long
    (subst (λ m. AreNodeSets graph c.args.self.now.skips.now c.args.self.now.evidence.now costs m c.put_sets.new.sets n) size c.put_sets.ensures)
