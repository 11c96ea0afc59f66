use Rattle.std.proofs.Common.{length, arith}
use Rattle.level_lister.proofs.PartVariables.{grown, begun, further, ended, not_yet}
use Rattle.level_lister.proofs.TestCosts.{wider_is}
use Rattle.level_lister.proofs.ConditionCosts.{choice_is}
use Rattle.level_lister.proofs.choices.widen.Goals as goal

pub loop-part-init : goal.loop-part-init
loop-part-init c = record {
  set = λ test some more on_inner on_outer within is. wider_is c.args.evidence.now c.args.costs.now test _ _ c.args.set.now
      (begun (length c.args.costs.now) some more within c.args.outer.now c.args.inner.now on_inner on_outer c.next_missing-part.result c.next_missing-part.ensures.before) is;
  found = c.next_missing-part.ensures.found;
}

pub loop-part-preserved : goal.loop-part-preserved
loop-part-preserved c =
    let costs = c.args.costs.now in
    let part = c.loop-part.part in
    let miss = c.loop-part.invariant.found (omega (arith, c.requires.outer)) in record {
      set = λ test some more on_inner on_outer within is. wider_is c.args.evidence.now costs test _ _ c.add_part.new.set
          (further (length costs) some more within c.args.outer.now c.args.inner.now on_inner on_outer part c.next_missing-part-in-loop-part.result (omega arith) miss c.next_missing-part-in-loop-part.ensures.from c.next_missing-part-in-loop-part.ensures.before)
          (choice_is c.args.evidence.now costs test (grown some more part) part c.loop-part.set c.add_part.new.set (c.requires.evidence part 0 (omega arith))
          (not_yet (length costs) some more within c.args.outer.now c.args.inner.now on_inner on_outer part (omega arith) miss) (omega arith) (λ n lt. c.add_part.ensures n (omega arith))
          (c.loop-part.invariant.set test some more on_inner on_outer within is));
      found = c.next_missing-part-in-loop-part.ensures.found;
    }

pub returns : goal.returns
returns c test some more on_inner on_outer within is =
    wider_is c.args.evidence.now c.args.costs.now test _ _ c.loop-part.set (ended (length c.args.costs.now) some more within c.loop-part.part (omega arith)) (c.loop-part.invariant.set test some more on_inner on_outer within is)
