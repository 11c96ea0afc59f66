use Rattle.session_core.proofs.FedBytes.{fed_other}
use Rattle.session_core.proofs.serving.take_byte.Goals as goal

pub returns-else-byte-eq10-clause-ok : goal.returns-else-byte-eq10-clause-ok
returns-else-byte-eq10-clause-ok g c = fed_other _ _ _ _ _ _ c.if-byte-eq10.false c.push.ensures
