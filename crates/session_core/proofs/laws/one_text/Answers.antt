use Rattle.session_core.proofs.OneText.{one_text}
use Rattle.session_core.proofs.laws.one_text.Goals as goal

pub returns : goal.returns
returns c = λ shown sound. one_text shown sound.offered
