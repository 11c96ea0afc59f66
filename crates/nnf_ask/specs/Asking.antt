-- Questions to a graph without a device. Its first variables are parts, true if the part is ok, and all others are
-- wires. Every failure costs 1.
use Rattle.std.specs.Prelude.{ℕ, ◌+◌, ◌-◌, ◌/◌, ◌%◌, List, [], ◌∷◌, map, Option, Some, None, Result, Ok, Err, nat_lt, if◌then◌else◌}
use Rattle.std.specs.List.{range_with_len}
use Rattle.text_rules.specs.Names.{Name}
use Rattle.state_rules.specs.Ranking.{plain_costs}
use Rattle.state_rules.specs.Systems.{System, no_extras}
use Rattle.state_rules.specs.Graphs.{Graph}
use Rattle.device_model.specs.declared.limits.TheConstants.{WIRE_LIMIT}
use Rattle.session_rules.specs.GraphSystems.{Subject, system_of}
use Rattle.nnf_ask.specs.declared.names.AskError.{AskError}
use Rattle.nnf_ask.specs.declared.names.AskError.TheVariants.{Health, Wires, Memory}

-- a number below 100,000 in five digits
abbrev pub five_digits : ℕ → Name
five_digits n = (48 + n / 10000) ∷ (48 + n / 1000 % 10) ∷ (48 + n / 100 % 10) ∷ (48 + n / 10 % 10) ∷ (48 + n % 10) ∷ []

-- A variable's name is its number in five digits, so that names are in the order of the variables.
abbrev pub variable_names : ℕ → ℕ → List Name
variable_names first count = map five_digits (range_with_len first count)

-- the names of `health` parts and of the wires among `vars` variables, or the refusal
abbrev pub asked_names : ℕ → ℕ → Result (List Name × List Name) AskError
asked_names health vars =
    if nat_lt vars health then Err (Health health vars)
    else if nat_lt WIRE_LIMIT (vars - health) then Err (Wires (vars - health))
    else Ok (variable_names 1 health, variable_names (health + 1) (vars - health))

-- lack of memory is no refusal
abbrev pub told : AskError → Option AskError
told Memory = None
told error = Some error

-- the subject of sessions over a graph whose first `health` variables are parts; it has no extras
abbrev pub asked_subject : ℕ → Graph → Subject
asked_subject health graph = record {
  parts = variable_names 1 health;
  wires = variable_names (health + 1) (graph.vars - health);
  costs = plain_costs health;
  graph = graph;
  extras = no_extras;
}

abbrev pub asked_system : ℕ → Graph → System
asked_system health graph = system_of (asked_subject health graph)
