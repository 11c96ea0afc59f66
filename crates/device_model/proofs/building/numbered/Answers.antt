use Rattle.std.proofs.Common.{arith}
use Rattle.std.proofs.lemmas.Grind.{common_steps}
use Rattle.device_model.proofs.Steps.{numbered_from-push}
use Rattle.device_model.proofs.building.numbered.Goals as goal

pub loop-wire-preserved : goal.loop-wire-preserved
loop-wire-preserved c = grind (arith, common_steps, numbered_from-push)
