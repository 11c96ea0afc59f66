use Rattle.diag_cli.proofs.GateDevices.{netlists_agree}
use Rattle.diag_cli.proofs.laws.netlists_agree.Goals as goal

pub returns : goal.returns
returns c = netlists_agree
