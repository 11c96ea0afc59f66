use Rattle.std.proofs.Common.{◌≡◌, ◌*◌, List, ℕ, length, get_or, sym, subst, arith}
use Rattle.level_lister.specs.inner.CostSets.{AreSums, IsCostSet}
use Rattle.level_lister.specs.inner.NodeSets.{AreNodeSets, IsNodeSet}
use Rattle.level_lister.proofs.TestCosts.{zero_is}
use Rattle.part_sets.proofs.Children.{child-below}
use Rattle.level_lister.proofs.Children.{children_apart, and_next, and_end}
use Rattle.level_lister.proofs.ConditionCosts.{and_is}
use Rattle.level_lister.proofs.search.Asked.put_and.Goals as goal

pub loop-child-init : goal.loop-child-init
loop-child-init c evidence costs sets = zero_is evidence costs c.put_one.new.set (λ n h. c.put_one.ensures n (omega arith))

pub loop-child-preserved : goal.loop-child-preserved
loop-child-preserved c evidence costs sets =
    let kids = c.kids-child-items.result.now in
    let j = c.loop-child.child-index in
    let child = c.set_at.result.now in
    let set = c.put_sums.new.set in
    let size : length c.put_sums.new.set ≡ length c.loop-child.set = omega arith in
    let own : length c.put_sums.new.set ≡ length c.args.set.now = omega arith in
    let sums : AreSums c.loop-child.set child (32 * length c.put_sums.new.set) set =
    subst (λ n. AreSums c.loop-child.set child (32 * n) set) (sym size) (subst (λ (xs : List ℕ). AreSums xs child (32 * length c.loop-child.set) set) c.copy_from_slice.ensures.after c.put_sums.ensures) in
    and_next c.args.self.now.graph.now c.args.at kids c.args.self.now.valid c.requires.node.within c.kids-child-items.ensures.kids c.args.self.now.skips.now c.requires.node.lives (λ t m. IsCostSet evidence costs t m set) j c.loop-child-test.true
    (and_is evidence costs _ _ _ _ c.loop-child.set child set (sym size) (omega (arith, c.set_at.ensures.long)) (children_apart c.args.self.now.graph.now c.args.at kids c.args.self.now.valid c.requires.node.within c.kids-child-items.ensures.kids j c.requires.node.what_is c.loop-child-test.true) sums
    (c.loop-child.invariant evidence costs (subst (λ n. AreNodeSets c.args.self.now.graph.now c.args.self.now.skips.now evidence costs n c.args.sets.now c.args.at) size sets))
    (subst (λ (xs : List ℕ). IsNodeSet c.args.self.now.graph.now c.args.self.now.skips.now evidence costs (get_or kids j 0) xs) (sym c.set_at.ensures.set)
    (subst (λ n. AreNodeSets c.args.self.now.graph.now c.args.self.now.skips.now evidence costs n c.args.sets.now c.args.at) own sets (get_or kids j 0) (child-below c.args.self.now.graph.now c.args.at kids c.args.self.now.valid c.requires.node.within c.kids-child-items.ensures.kids j c.loop-child-test.true))))

pub returns : goal.returns
returns c evidence costs sets =
    let kids = c.kids-child-items.result.now in
    let size : length c.args.set.now ≡ length c.loop-child.set = omega arith in
    and_end c.args.self.now.graph.now c.args.at kids c.args.self.now.valid c.requires.node.within c.kids-child-items.ensures.kids c.args.self.now.skips.now c.requires.node.lives (λ t m. IsCostSet evidence costs t m c.loop-child.set) c.loop-child.child-index c.requires.node.what_is (omega arith)
    (c.loop-child.invariant evidence costs (subst (λ n. AreNodeSets c.args.self.now.graph.now c.args.self.now.skips.now evidence costs n c.args.sets.now c.args.at) size sets))
