use Rattle.diag_cli.proofs.GateDevices.{loads_agree}
use Rattle.diag_cli.proofs.laws.loads_agree.Goals as goal

pub returns : goal.returns
returns c = loads_agree
