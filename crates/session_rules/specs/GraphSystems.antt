-- A system whose consistent states are the models of a graph. Its variables are the parts, then the wires, then inner ones.
use Rattle.std.specs.Prelude.{◌≡◌, true, ℕ, ◌+◌, ◌-◌, ◌*◌, ◌^◌, ◌<◌, All, List, ◌++◌, map, length, replicate}
use Rattle.text_rules.specs.Names.{Name}
use Rattle.state_rules.specs.Cases.{Case}
use Rattle.state_rules.specs.declared.extras.Extras.{Extras}
use Rattle.state_rules.specs.Systems.{System, no_extras, open_texts, with_extras}
use Rattle.state_rules.specs.Graphs.{Graph, edges}
use Rattle.device_model.specs.Devices.{Device, part_names, part_costs}
use Rattle.conditioner.specs.Evidence.{word_of_known}
use Rattle.conditioner.specs.Models.{models}

-- the evidence of a case on `vars` variables, the inner ones open
abbrev pub case_evidence : ℕ → Case → List ℕ
case_evidence vars known =
    map word_of_known known.held
    ++ (map word_of_known known.seen ++ replicate (vars - (length known.held + length known.seen)) 0)

abbrev pub graph_system : List Name → List Name → List ℕ → Graph → System
graph_system parts wires costs graph = record {
  parts = parts;
  wires = wires;
  costs = costs;
  consistent = λ known. models graph (case_evidence graph.vars known) (length parts);
  extras = no_extras;
  graphs = true;
  texts = open_texts;
}

-- what a service is about: the names of parts and wires, the cost of each part's failure, a graph, and the extras
pub record Subject : Type 0 where
  pub parts : List Name
  pub wires : List Name
  pub costs : List ℕ
  pub graph : Graph
  pub extras : Extras

-- Each part costs more than 0, and the graph of the diagnoses has few enough lines for a text to number, whatever is known.
pub record HasLeastTexts (subject : Subject) : Type 0 where
  pub costs : length subject.costs ≡ length subject.parts
  pub dear : All (λ c. 0 < c) subject.costs
  pub few : length subject.graph.nodes + edges subject.graph.nodes + 2 * length subject.costs + 1 < 2 ^ 32

abbrev pub system_of : Subject → System
system_of subject = with_extras subject.extras (graph_system subject.parts subject.wires subject.costs subject.graph)

-- the system of a device's graph
abbrev pub compiled_system : Device → Graph → System
compiled_system device graph = graph_system (part_names device.parts) device.wires (part_costs device) graph
