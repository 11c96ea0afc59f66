use Rattle.session_table.proofs.FittingCases.{all_fit}
use Rattle.session_table.proofs.open_sessions.OpenSessions.parts.Goals as goal

pub returns-clause-cases : goal.returns-clause-cases
returns-clause-cases c = rw (← c.self.view_is) (all_fit _ _ _ c.self.invariant.blocks)
