use Rattle.std.proofs.Common.{◌∙◌, arith}
use Rattle.conditioner.specs.Evidence.{bits_of}
use Rattle.adder_load.proofs.ListedDiagnoses.{one_more, next_is, all_listed, stays, taken_all}
use Rattle.adder_load.proofs.sampling.list_on.Goals as goal

pub returns-in-End : goal.returns-in-End
returns-in-End g c =
    let kept = c.loop-count.invariant in
    let all = all_listed c.args.graph.now c.args.evidence.now c.args.costs.now c.loop-count.count (bits_of c.loop-count.state) kept.some kept.there kept.last c.next.result (rw kept.evidence at c.next.ensures.step) c.in-End.is in
    record {
      listed = taken_all c.args.most c.loop-count.count _ all (omega arith);
      last = stays c.args.graph.now c.args.evidence.now c.args.costs.now c.loop-count.count _ kept.some kept.there kept.last (bits_of c.next.new.state) all (rw kept.evidence at c.next.ensures.next);
      state = c.next.ensures.state;
      evidence = c.next.ensures.evidence ∙ kept.evidence;
      serves = c.next.ensures.serves;
    }

pub loop-count-preserved : goal.loop-count-preserved
loop-count-preserved g c =
    let kept = c.loop-count.invariant in
    let more = one_more c.args.graph.now c.args.evidence.now c.args.costs.now c.loop-count.count (bits_of c.loop-count.state) kept.some kept.there kept.last (rw kept.evidence at c.in-Found.ensures.step) in
    record {
      evidence = c.next.ensures.evidence ∙ kept.evidence;
      state_words = c.next.ensures.state;
      some = omega arith;
      there = more;
      last = next_is c.args.graph.now c.args.evidence.now c.args.costs.now c.loop-count.count _ kept.some kept.there kept.last (bits_of c.next.new.state) _ more (rw kept.evidence at c.in-Found.ensures.next);
      serves = c.next.ensures.serves;
    }
