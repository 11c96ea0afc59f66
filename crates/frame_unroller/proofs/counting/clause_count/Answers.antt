use Rattle.std.proofs.Common.{◌≡◌, ◌<◌, length, get_or, refl, ap, ◌∙◌, arith}
use Rattle.frame_unroller.proofs.ClauseCounts.{Has, at_first, none_at_first, at_later, counted_more, count-copies}
use Rattle.frame_unroller.proofs.counting.clause_count.Goals as goal
use Rattle.frame_unroller.proofs.counting.clause_count.Goals.{then-not-delays-place, else-not-delays-place}

pub loop-place-preserved : goal.loop-place-preserved
loop-place-preserved c =
    let seq = c.args.seq.now in
    let place = c.loop-place.place in
    let part = c.part-item.result in
    let n = c.part_count-clauses.result in
    let lt : place < length seq.device.parts = omega (arith, c.loop-place-test.true, ap length c.parts-part-items.ensures.parts) in
    let is : part ≡ get_or seq.device.parts place part = c.part-item.is ∙ ap (λ ps. get_or ps place part) c.parts-part-items.ensures.parts in
    let said = c.requires.delays.say place lt in
    let has : Has seq c.args.frames part n = λ h z vs long. grind (arith, c.part_count-clauses.ensures.count h z vs) in
    record {
      at_first = elim c.if-not-delays-place.branch [
        | then-not-delays-place w ↦ counted_more seq c.args.frames 1 place _ n _ part lt is (at_first seq c.args.frames place part n (grind arith) has) c.loop-place.invariant.at_first w.first-is
        | else-not-delays-place w ↦ counted_more seq c.args.frames 1 place _ 0 _ part lt is (none_at_first seq c.args.frames place part (grind arith)) c.loop-place.invariant.at_first (omega (arith, w.first-is))
      ];
      at_later = λ t after. counted_more seq c.args.frames t place _ n _ part lt is (at_later seq c.args.frames t after place part n has) (c.loop-place.invariant.at_later t after) refl;
      few = grind arith;
      fewer = grind arith;
    }

pub returns : goal.returns
returns c = grind (arith, count-copies c.args.seq.now c.args.frames c.loop-place.first c.loop-place.later c.loop-place.place (grind arith) c.loop-place.invariant.at_first c.loop-place.invariant.at_later)
