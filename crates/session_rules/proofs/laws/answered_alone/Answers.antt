use Rattle.session_rules.proofs.Alone.{answered_alone}
use Rattle.session_rules.proofs.laws.answered_alone.Goals as goal

pub returns : goal.returns
returns c = answered_alone
