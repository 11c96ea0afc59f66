use Rattle.std.proofs.Common.{arith}
use Rattle.std.proofs.lemmas.Grind.{elements}
use Rattle.diagnosis_lister.proofs.OpenMarks.{bit_in-marked}
use Rattle.diagnosis_lister.proofs.Points.{FollowsTo-set, FollowsTo-stay}
use Rattle.diagnosis_lister.proofs.leaving.follow.Goals as goal

pub loop-part-preserved : goal.loop-part-preserved
loop-part-preserved c =
    let at = bit_in-marked c.args.state.now c.loop-part.part c.loop-part-test.true in
    record { small = grind (arith, elements); follows = grind (arith, FollowsTo-set, FollowsTo-stay) }
