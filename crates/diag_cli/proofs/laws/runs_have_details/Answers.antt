use Rattle.diag_cli.proofs.Details.{run_has_details}
use Rattle.diag_cli.proofs.laws.runs_have_details.Goals as goal

pub returns : goal.returns
returns c = run_has_details
