use Rattle.std.proofs.Common.{◌*◌, length, ◌∙◌}
use Rattle.level_lister.specs.Listing.{cost_words}
use Rattle.level_lister.specs.inner.NodeSets.{IsNodeSet}
use Rattle.level_lister.proofs.Stacks.{sets_before, sets_stay}
use Rattle.level_lister.proofs.search.Asked.faulty_group_by_sets.Goals as goal

pub put_all-requires-clause-are : goal.put_all-requires-clause-are
put_all-requires-clause-are c =
    let graph = c.args.self.now.graph.now in
    sets_before (IsNodeSet graph c.args.self.now.skips.now c.args.self.now.evidence.now c.args.self.now.levels.now.costs) (cost_words c.args.self.now.levels.now.top) c.args.work.now c.split_at_mut-sets.result.0.now c.split_at_mut-sets.result.1.now (length graph.nodes)
    c.split_at_mut-sets.ensures.value (c.split_at_mut-sets.ensures.front_len ∙ (λ i. c.len.ensures.len i * c.size-size.ensures i)) c.requires.sets

pub returns-then-has_number-clause-sets : goal.returns-then-has_number-clause-sets
returns-then-has_number-clause-sets c =
    let graph = c.args.self.now.graph.now in
    sets_stay (IsNodeSet graph c.args.self.now.skips.now c.args.self.now.evidence.now c.args.self.now.levels.now.costs) (cost_words c.args.self.now.levels.now.top) c.args.work.now c.split_at_mut-sets.result.0.now c.split_at_mut-sets.result.1.now _ (length graph.nodes)
    c.split_at_mut-sets.ensures.value (c.split_at_mut-sets.ensures.front_len ∙ (λ i. c.len.ensures.len i * c.size-size.ensures i)) c.requires.sets

pub returns-else-has_number-clause-sets : goal.returns-else-has_number-clause-sets
returns-else-has_number-clause-sets c =
    let graph = c.args.self.now.graph.now in
    sets_stay (IsNodeSet graph c.args.self.now.skips.now c.args.self.now.evidence.now c.args.self.now.levels.now.costs) (cost_words c.args.self.now.levels.now.top) c.args.work.now c.split_at_mut-sets.result.0.now c.split_at_mut-sets.result.1.now _ (length graph.nodes)
    c.split_at_mut-sets.ensures.value (c.split_at_mut-sets.ensures.front_len ∙ (λ i. c.len.ensures.len i * c.size-size.ensures i)) c.requires.sets
