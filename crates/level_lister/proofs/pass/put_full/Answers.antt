use Rattle.std.proofs.Common.{◌≡◌, List, ℕ, length, get_or, sym, subst, arith}
use Rattle.level_lister.specs.inner.NodeSets.{IsNodeSet, AreNodeSets}
use Rattle.level_lister.specs.inner.FaultSets.{in_first, IsFaultSet, IsNodeFaults, AreNodeFaults}
use Rattle.level_lister.specs.inner.CostSets.{IsCostSet}
use Rattle.part_sets.specs.PartSets.{SameBelow}
use Rattle.part_sets.proofs.Children.{child-below}
use Rattle.level_lister.proofs.TestCosts.{wider_is}
use Rattle.level_lister.proofs.ConditionCosts.{or_is}
use Rattle.level_lister.proofs.FaultCosts.{fault_or, fault_wider}
use Rattle.level_lister.proofs.Children.{child_full, or_next, or_end}
use Rattle.level_lister.proofs.FaultNodes.{first_parts}
use Rattle.level_lister.proofs.pass.put_full.Goals as goal

pub loop-child-preserved : goal.loop-child-preserved
loop-child-preserved c =
    let graph = c.args.graph.now in
    let at = c.args.at in
    let earlier = c.args.sets.now in
    let kids = c.kids-child-items.result.now in
    let j = c.loop-child.child-index in
    let new = c.add_shifted.new.set in
    let ok = c.kids-child-items.ensures.valid in
    let lt = c.loop-child-test.true in
    let size : length c.add_shifted.new.set ≡ length c.loop-child.set = omega arith in
    let own : length c.add_shifted.new.set ≡ length c.args.set.now = omega arith in
    let full = λ (costs : List ℕ) (same : SameBelow graph (length costs) at). child_full graph at kids ok c.requires.at c.kids-child-items.ensures.kids (length costs) j c.requires.what lt same in
    let below = child-below graph at kids ok c.requires.at c.kids-child-items.ensures.kids j lt in record {
      all = λ skips evidence costs lives same sets.
          or_next graph at kids ok c.requires.at c.kids-child-items.ensures.kids skips lives (λ t m. IsCostSet evidence costs t m new) j lt
          (or_is evidence costs _ _ _ c.loop-child.set c.set_at.result.now new (sym size) (omega (arith, c.set_at.ensures.long)) (λ n h. c.add_shifted.ensures n (omega arith))
          (c.loop-child.invariant.all skips evidence costs lives same (subst (λ n. AreNodeSets graph skips evidence costs n earlier at) size sets))
          (wider_is evidence costs _ _ _ c.set_at.result.now (full costs same)
          (subst (IsNodeSet graph skips evidence costs (get_or kids j 0)) (sym c.set_at.ensures.set) (subst (λ n. AreNodeSets graph skips evidence costs n earlier at) own sets (get_or kids j 0) below))));
      faulty = λ skips evidence costs groups lives same sets.
          or_next graph at kids ok c.requires.at c.kids-child-items.ensures.kids skips lives (λ t m. IsFaultSet evidence costs (in_first evidence costs groups) t m new) j lt
          (fault_or evidence costs (in_first evidence costs groups) _ _ _ c.loop-child.set c.set_at.result.now new (sym size) (omega (arith, c.set_at.ensures.long)) (λ n h. c.add_shifted.ensures n (omega arith))
          (c.loop-child.invariant.faulty skips evidence costs groups lives same (subst (λ n. AreNodeFaults graph skips evidence costs groups n earlier at) size sets))
          (fault_wider evidence costs (in_first evidence costs groups) (first_parts evidence costs groups) _ _ _ c.set_at.result.now (full costs same)
          (subst (IsNodeFaults graph skips evidence costs groups (get_or kids j 0)) (sym c.set_at.ensures.set) (subst (λ n. AreNodeFaults graph skips evidence costs groups n earlier at) own sets (get_or kids j 0) below))));
    }

pub returns-clause-all : goal.returns-clause-all
returns-clause-all c skips evidence costs lives same sets =
    let size : length c.args.set.now ≡ length c.loop-child.set = omega arith in
    or_end c.args.graph.now c.args.at c.kids-child-items.result.now c.kids-child-items.ensures.valid c.requires.at c.kids-child-items.ensures.kids skips lives (λ t m. IsCostSet evidence costs t m c.loop-child.set) c.loop-child.child-index c.requires.what (omega arith)
    (c.loop-child.invariant.all skips evidence costs lives same (subst (λ n. AreNodeSets c.args.graph.now skips evidence costs n c.args.sets.now c.args.at) size sets))

pub returns-clause-faulty : goal.returns-clause-faulty
returns-clause-faulty c skips evidence costs groups lives same sets =
    let size : length c.args.set.now ≡ length c.loop-child.set = omega arith in
    or_end c.args.graph.now c.args.at c.kids-child-items.result.now c.kids-child-items.ensures.valid c.requires.at c.kids-child-items.ensures.kids skips lives (λ t m. IsFaultSet evidence costs (in_first evidence costs groups) t m c.loop-child.set) c.loop-child.child-index c.requires.what (omega arith)
    (c.loop-child.invariant.faulty skips evidence costs groups lives same (subst (λ n. AreNodeFaults c.args.graph.now skips evidence costs groups n c.args.sets.now c.args.at) size sets))
