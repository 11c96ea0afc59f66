use Rattle.std.proofs.Common.{arith}
use Rattle.std.proofs.lemmas.Grind.{common_steps}
use Rattle.state_rules.proofs.Lists.{range_more}
use Rattle.flattener.proofs.flattening.first_places.Goals as goal

pub loop-place-preserved : goal.loop-place-preserved
loop-place-preserved c = let more = range_more 0 c.loop-place.place in grind (arith, common_steps)
