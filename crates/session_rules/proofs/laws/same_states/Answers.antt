use Rattle.session_rules.proofs.GraphMeaning.{same_fitting, same_consistent}
use Rattle.session_rules.proofs.laws.same_states.Goals as goal

pub returns-clause-fitting : goal.returns-clause-fitting
returns-clause-fitting c = same_fitting

pub returns-clause-device : goal.returns-clause-device
returns-clause-device c = same_consistent
