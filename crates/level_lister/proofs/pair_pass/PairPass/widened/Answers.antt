use Rattle.std.proofs.Common.{◌≡◌, ◌+◌, ◌<◌, length, sym, ap, subst, arith, ◌∙◌}
use Rattle.std.proofs.Math.Bool.{and-true}
use Rattle.node_costs.proofs.Conditions.{one_apart}
use Rattle.part_sets.specs.Numbers.{part_words, set_at}
use Rattle.part_sets.specs.PartSets.{ArePartsOf}
use Rattle.level_lister.specs.inner.Pairs.{group_count, group_in}
use Rattle.level_lister.proofs.PartVariables.{grown, begun, further, ended, not_yet}
use Rattle.level_lister.proofs.TwoWords.{tells_same}
use Rattle.level_lister.proofs.PairNodes.{on_parts, wider_groups}
use Rattle.level_lister.proofs.pair_pass.PairPass.widened.Goals as goal

pub loop-part-init : goal.loop-part-init
loop-part-init c = record {
  told = λ test some more on_inner on_outer within is. wider_groups c.args.self.now.evidence.now c.args.self.now.levels.now.costs c.args.self.now.levels.now.top c.args.self.now.groups c.args.pair test _ _
      (begun (length c.args.self.now.levels.now.costs) some more within c.set_at-below.result.now c.set_at-own.result.now on_inner on_outer c.next_missing-part.result c.next_missing-part.ensures.before) is;
  found = c.next_missing-part.ensures.found;
}

pub loop-part-preserved : goal.loop-part-preserved
loop-part-preserved c =
    let evidence = c.args.self.now.evidence.now in
    let costs = c.args.self.now.levels.now.costs in
    let top = c.args.self.now.levels.now.top in
    let part = c.loop-part.part in
    let outer = c.set_at-below.result.now in
    let inner = c.set_at-own.result.now in
    let group = group_in evidence (length costs) c.args.self.now.groups in
    let lt : part < length costs = omega (arith, c.loop-part-test.true, ap length c.costs-parts.ensures) in
    let miss = c.loop-part.invariant.found (omega (arith, c.set_at-below.ensures.long, c.part_words.ensures, c.loop-part-test.true)) in record {
      told = λ test some more on_inner on_outer within is.
          tells_same evidence costs top (group_count top) group _ test _ _ c.joined-pair.result (on_parts evidence (length costs) c.args.self.now.groups) (λ a. and-true (test a))
          (further (length costs) some more within outer inner on_inner on_outer part c.next_missing-part-in-loop-part.result lt miss c.next_missing-part-in-loop-part.ensures.from c.next_missing-part-in-loop-part.ensures.before)
          (c.joined-pair.ensures evidence costs top (group_count top) group _ _ _ _ c.group_count.ensures.count (ap (λ n. n + 1) c.top.ensures)
          (one_apart (grown some more part) (part + 1) (not_yet (length costs) some more within outer inner on_inner on_outer part lt miss))
          (c.loop-part.invariant.told test some more on_inner on_outer within is) c.free_pair-free.ensures);
      found = c.next_missing-part-in-loop-part.ensures.found;
    }

pub returns : goal.returns
returns c test some more on_inner on_outer within is =
    let costs = c.args.self.now.levels.now.costs in
    let top = c.args.self.now.levels.now.top in
    let below = c.args.self.now.levels.now.below in
    let parts : length c.costs-parts.result.now ≡ length costs = ap length c.costs-parts.ensures in
    let outer : c.set_at-below.result.now ≡ set_at below c.args.outer (part_words (length costs)) =
    c.set_at-below.ensures.set ∙ (λ i. set_at (c.below.ensures i) c.args.outer ((c.part_words.ensures ∙ ap part_words parts) i)) in
    let inner : c.set_at-own.result.now ≡ set_at below c.args.inner (part_words (length costs)) =
    c.set_at-own.ensures.set ∙ (λ i. set_at (c.below-2.ensures i) c.args.inner ((c.part_words-2.ensures ∙ ap part_words parts) i)) in
    wider_groups c.args.self.now.evidence.now costs top c.args.self.now.groups c.loop-part.pair test _ _ (ended (length costs) some more within c.loop-part.part (omega (arith, c.loop-part-test.false, parts)))
    (c.loop-part.invariant.told test some more (subst (ArePartsOf (length costs) some) (sym inner) on_inner) (subst (ArePartsOf (length costs) more) (sym outer) on_outer) within is)
