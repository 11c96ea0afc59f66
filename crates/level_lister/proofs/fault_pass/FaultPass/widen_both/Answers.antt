use Rattle.std.proofs.Common.{◌≡◌, ◌<◌, length, sym, ap, subst, arith, ◌∙◌}
use Rattle.part_sets.specs.Numbers.{part_words, set_at}
use Rattle.part_sets.specs.PartSets.{ArePartsOf}
use Rattle.level_lister.specs.inner.FaultSets.{in_first}
use Rattle.level_lister.proofs.PartVariables.{grown, begun, further, ended, not_yet}
use Rattle.level_lister.proofs.FaultCosts.{both_wider}
use Rattle.level_lister.proofs.FaultNodes.{first_parts}
use Rattle.level_lister.proofs.fault_pass.FaultPass.widen_both.Goals as goal

pub loop-part-init : goal.loop-part-init
loop-part-init c =
    let evidence = c.args.self.now.evidence.now in
    let costs = c.args.self.now.levels.now.costs in
    let on = first_parts evidence costs c.args.self.now.groups in record {
      both = λ test some more on_inner on_outer within is.
          both_wider evidence costs (in_first evidence costs c.args.self.now.groups) on test _ _ c.args.all.now c.args.faults.now
          (begun (length costs) some more within c.set_at-below.result.now c.set_at-own.result.now on_inner on_outer c.next_missing-part.result c.next_missing-part.ensures.before) is;
      found = c.next_missing-part.ensures.found;
    }

pub loop-part-preserved : goal.loop-part-preserved
loop-part-preserved c =
    let evidence = c.args.self.now.evidence.now in
    let costs = c.args.self.now.levels.now.costs in
    let part = c.loop-part.part in
    let outer = c.set_at-below.result.now in
    let inner = c.set_at-own.result.now in
    let lt : part < length costs = omega (arith, c.loop-part-test.true, ap length c.costs-parts.ensures) in
    let miss = c.loop-part.invariant.found (omega (arith, c.set_at-below.ensures.long, c.part_words-size.ensures, c.loop-part-test.true)) in record {
      both = λ test some more on_inner on_outer within is.
          both_wider evidence costs (in_first evidence costs c.args.self.now.groups) (first_parts evidence costs c.args.self.now.groups) test _ _ c.add_free.new.all c.add_free.new.faults
          (further (length costs) some more within outer inner on_inner on_outer part c.next_missing-part-in-loop-part.result lt miss c.next_missing-part-in-loop-part.ensures.from c.next_missing-part-in-loop-part.ensures.before)
          (c.add_free.ensures test (grown some more part) (not_yet (length costs) some more within outer inner on_inner on_outer part lt miss) (c.loop-part.invariant.both test some more on_inner on_outer within is));
      found = c.next_missing-part-in-loop-part.ensures.found;
    }

pub returns : goal.returns
returns c test some more on_inner on_outer within is =
    let evidence = c.args.self.now.evidence.now in
    let costs = c.args.self.now.levels.now.costs in
    let below = c.args.self.now.levels.now.below in
    let group = in_first evidence costs c.args.self.now.groups in
    let parts : length c.costs-parts.result.now ≡ length costs = ap length c.costs-parts.ensures in
    let size : c.part_words-size.result ≡ part_words (length costs) = c.part_words-size.ensures ∙ ap part_words parts in
    let outer : c.set_at-below.result.now ≡ set_at below c.args.outer (part_words (length costs)) = c.set_at-below.ensures.set ∙ (λ i. set_at (c.below.ensures i) c.args.outer (size i)) in
    let inner : c.set_at-own.result.now ≡ set_at below c.args.inner (part_words (length costs)) = c.set_at-own.ensures.set ∙ (λ i. set_at (c.below-2.ensures i) c.args.inner (size i)) in
    both_wider evidence costs group (first_parts evidence costs c.args.self.now.groups) test _ _ c.loop-part.all c.loop-part.faults (ended (length costs) some more within c.loop-part.part (omega (arith, c.loop-part-test.false, parts)))
    (c.loop-part.invariant.both test some more (subst (ArePartsOf (length costs) some) (sym inner) on_inner) (subst (ArePartsOf (length costs) more) (sym outer) on_outer) within is)
