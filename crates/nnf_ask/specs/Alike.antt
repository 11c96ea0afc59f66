-- Questions to a device's graph, and to the device.
use Rattle.std.specs.Prelude.{◌≡◌, ℕ, ◌+◌, ◌-◌, Bool, List, ◌++◌, length, replicate, Option, None}
use Rattle.state_rules.specs.Cases.{Case}
use Rattle.state_rules.specs.Ranking.{rest}
use Rattle.state_rules.specs.Systems.{System, least_cost, all_diagnoses}

-- a device's case over `vars` variables, all of which are parts or wires: nothing is seen of those after the device's wires
abbrev pub case_among : ℕ → Case → Case
case_among vars known = record known {
  seen = known.seen ++ replicate (vars - (length known.held + length known.seen)) None;
}

-- Position by position, two systems, each with a case, have the same consistent states, the same least cost, the same diagnoses,
-- and the same diagnoses after any point.
pub record AreAlike (one other : System) (ones others : Case) : Type 0 where
  pub states : one.consistent ones ≡ other.consistent others
  pub least : least_cost one ones ≡ least_cost other others
  pub diagnoses : all_diagnoses one ones ≡ all_diagnoses other others
  pub later : (point : Option (List Bool)) → rest (all_diagnoses one ones) point ≡ rest (all_diagnoses other others) point
