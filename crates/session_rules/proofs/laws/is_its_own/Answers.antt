use Rattle.session_rules.proofs.Locality.{is_its_own}
use Rattle.session_rules.proofs.laws.is_its_own.Goals as goal

pub returns : goal.returns
returns c = is_its_own
