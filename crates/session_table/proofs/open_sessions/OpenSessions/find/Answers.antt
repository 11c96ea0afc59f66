use Rattle.session_table.proofs.Changes.{found, absent}
use Rattle.session_table.proofs.open_sessions.OpenSessions.find.Goals as goal

pub returns-clause-some : goal.returns-clause-some
returns-clause-some c = rw c.ok.ensures.value (found c.self.inside _ c.self.view_is c.self.invariant _ _ c.deref.ensures.value _ c.find_place.ensures.found)

pub returns-clause-none : goal.returns-clause-none
returns-clause-none c = rw c.ok.ensures.value (absent c.self.inside _ c.self.view_is c.self.invariant _ _ c.deref.ensures.value _ c.find_place.ensures.gap)
