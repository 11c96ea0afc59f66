-- What the parts of a service have in common.
use Rattle.std.specs.Prelude.{◌≡◌, ◌+◌, length}
use Rattle.state_rules.specs.Systems.{System}
use Rattle.session_table.specs.Tables.{Opened}
use Rattle.engines.specs.Offered.{IsOffered}
use Rattle.session_core.specs.Services.{Shown}

-- the system may be served, and the sessions are over its parts and wires
pub record HoldsTogether (system : System) (opened : Opened) : Type 0 where
  pub parts : opened.parts ≡ length system.parts
  pub wires : opened.wires ≡ length system.wires
  pub vars : opened.vars ≡ length system.parts + length system.wires
  pub offered : IsOffered system

-- what is shown of a system with these sessions
abbrev pub shown_of : System → Opened → Shown
shown_of system opened = record { system = system; limit = opened.limit; table = opened.table }
