use Rattle.std.proofs.Common.{◌≡◌, ◌+◌, ◌-◌, ◌<◌, true, length, get_or, refl, sym, ◌∙◌, subst, arith}
use Rattle.state_rules.specs.Graphs.{is_true, mentions}
use Rattle.part_sets.specs.Numbers.{part_words, set_at}
use Rattle.part_sets.specs.PartSets.{ArePartsOf}
use Rattle.level_lister.specs.inner.Skips.{living}
use Rattle.level_lister.specs.inner.NodeSets.{IsNodeSet}
use Rattle.level_lister.specs.inner.FaultSets.{in_first, IsNodeFaults}
use Rattle.level_lister.proofs.Children.{root_full}
use Rattle.level_lister.proofs.FaultCosts.{fault_wider}
use Rattle.level_lister.proofs.FaultNodes.{first_parts}
use Rattle.level_lister.proofs.fault_pass.FaultPass.put_all.Goals as goal

pub returns-then-lacking-root-eq0 : goal.returns-then-lacking-root-eq0
returns-then-lacking-root-eq0 c =
    let graph = c.args.self.now.graph.now in
    let evidence = c.args.self.now.evidence.now in
    let costs = c.args.self.now.levels.now.costs in
    let groups = c.args.self.now.groups in
    let inside : length graph.nodes - 1 < length graph.nodes = omega (arith, c.len.ensures.valid.some) in
    let root : c.len.result - 1 ≡ length graph.nodes - 1 = omega (arith, c.len.ensures.len) in
    let next : c.len.result - 1 + 1 ≡ length graph.nodes = omega (arith, c.len.ensures.len, c.len.ensures.valid.some) in
    let full : get_or c.args.self.now.levels.now.lacking (length graph.nodes) 0 ≡ 0 = sym (λ i. get_or (c.lacking.ensures i) (next i) 0) ∙ c.if-lacking-root-eq0.true in
    fault_wider evidence costs (in_first evidence costs groups) (first_parts evidence costs groups) _ _ _ c.copy_from_slice.new.self (root_full graph (length costs) (c.args.self.now.for_graph.lacking.all.0 full))
    (subst (IsNodeFaults graph c.args.self.now.skips.now evidence costs groups (length graph.nodes - 1)) (sym (c.copy_from_slice.ensures.after ∙ c.set_at.ensures.set ∙ (λ i. set_at c.put_faults.new.faults (root i) (c.size-size.ensures i))))
    (c.put_faults.ensures (length graph.nodes - 1) inside))

pub returns : goal.returns
returns c =
    let graph = c.args.self.now.graph.now in
    let evidence = c.args.self.now.evidence.now in
    let costs = c.args.self.now.levels.now.costs in
    let groups = c.args.self.now.groups in
    let below = c.args.self.now.levels.now.below in
    let size = part_words (length costs) in
    let inside : length graph.nodes - 1 < length graph.nodes = omega (arith, c.len.ensures.valid.some) in
    let root : c.len.result - 1 ≡ length graph.nodes - 1 = omega (arith, c.len.ensures.len) in
    let next : c.len.result - 1 + 1 ≡ length graph.nodes = omega (arith, c.len.ensures.len, c.len.ensures.valid.some) in
    let all : IsNodeSet graph c.args.self.now.skips.now evidence costs (length graph.nodes - 1) c.copy_from_slice-2.new.self =
    subst (IsNodeSet graph c.args.self.now.skips.now evidence costs (length graph.nodes - 1)) (sym (c.copy_from_slice-2.ensures.after ∙ c.set_at-2.ensures.set ∙ (λ i. set_at c.args.self.now.sets.now (root i) (c.size-size.ensures i)))) (c.requires.are (length graph.nodes - 1) inside) in
    let faults : IsNodeFaults graph c.args.self.now.skips.now evidence costs groups (length graph.nodes - 1) c.copy_from_slice.new.self =
    subst (IsNodeFaults graph c.args.self.now.skips.now evidence costs groups (length graph.nodes - 1)) (sym (c.copy_from_slice.ensures.after ∙ c.set_at.ensures.set ∙ (λ i. set_at c.put_faults.new.faults (root i) (c.size-size.ensures i))))
    (c.put_faults.ensures (length graph.nodes - 1) inside) in
    let wide = c.widen_both.ensures (λ a. is_true (living graph.nodes c.args.self.now.skips.now) (length graph.nodes - 1) a) (λ v. mentions graph.nodes v (length graph.nodes - 1)) (λ v. true)
    (subst (λ k. ArePartsOf (length costs) (λ v. mentions graph.nodes v (length graph.nodes - 1)) (set_at below k size)) (sym root) (c.args.self.now.for_graph.below.nodes (length graph.nodes - 1) inside))
    (subst (λ k. ArePartsOf (length costs) (λ v. true) (set_at below k size)) (sym next) c.args.self.now.for_graph.below.all)
    (λ v e. refl) (record { all = all; faulty = faults }) in
    wide.faulty
