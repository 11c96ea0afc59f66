-- A service over a graph without a device answers as its system does.
use Rattle.std.proofs.Common.{◌≡◌, ◌+◌, ◌-◌, ℕ, List, [], ap, ◌∙◌, arith}
use Rattle.std.specs.Prelude.{Ok}
use Rattle.text_rules.specs.Names.{Name}
use Rattle.state_rules.specs.Ranking.{plain_costs}
use Rattle.state_rules.specs.Systems.{no_extras}
use Rattle.state_rules.specs.Graphs.{Graph}
use Rattle.session_rules.specs.GraphSystems.{system_of}
use Rattle.session_core.specs.Services.{Shown}
use Rattle.graph_engine.specs.Served.{served_system}
use Rattle.nnf_ask.specs.Asking.{variable_names, asked_names, asked_system}
use Rattle.diag_cli.specs.Behaviours.{answers_of}
use Rattle.diag_cli.specs.inner.Serving.{answers_by, Answers}

named : (health vars : ℕ) (parts wires : List Name) → asked_names health vars ≡ Ok (parts, wires) → (parts ≡ variable_names 1 health) × (wires ≡ variable_names (health + 1) (vars - health))
named health vars parts wires e = grind arith

pub asked_answers : (health sessions : ℕ) (graph : Graph) (parts wires : List Name) (costs : List ℕ) → asked_names health graph.vars ≡ Ok (parts, wires) → costs ≡ plain_costs health → (shown : Shown)
    → shown ≡ record {
      system = served_system (record { parts = parts; wires = wires; costs = costs; graph = graph; extras = no_extras });
      limit = sessions;
      table = [];
    } → Answers (asked_system health graph) sessions shown
asked_answers health sessions graph parts wires costs names are shown e =
    let both = named health graph.vars parts wires names in
    record {
      none_open = ap (λ (s : Shown). s.table) e;
      same = ap answers_by e ∙ (λ i. answers_of (system_of (record { parts = both.0 i; wires = both.1 i; costs = are i; graph = graph; extras = no_extras })) sessions);
    }
