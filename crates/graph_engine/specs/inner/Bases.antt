-- The subject of a service, the room that its answers take, and the evidence of a case.
use Rattle.std.specs.Prelude.{◌≡◌, ℕ, ◌+◌, ◌*◌, ◌<◌, ◌≤◌, Bool, Option, None, IfSome, is_some, List, length, All, true}
use Rattle.std.specs.Option.{option_map}
use Rattle.text_rules.specs.Names.{Name, names_rise}
use Rattle.state_rules.specs.Cases.{Case}
use Rattle.state_rules.specs.Graphs.{Graph, IsGraph}
use Rattle.device_model.specs.declared.limits.TheConstants.{PART_LIMIT, WIRE_LIMIT}
use Rattle.conditioner.specs.Models.{total_cost}
use Rattle.minimiser.specs.declared.pass.TheConstants.{TOTAL_LIMIT}
use Rattle.part_sets.specs.PartSets.{Kept as Sets, AreFor}
use Rattle.level_lister.specs.Listing.{Kept, IsFor, cost_words}
use Rattle.session_rules.specs.GraphSystems.{Subject}
use Rattle.session_rules.specs.CaseEvidence.{case_of_evidence, IsEvidence}
use Rattle.graph_engine.specs.declared.limits.TheConstants.{SERVED_VARIABLES, SERVED_NODES}
use Rattle.graph_engine.specs.Served.{CanList, CanDraw}

-- each part has a name and a cost, all are few, and the graph has variables for parts and wires
pub record IsBasis (subject : Subject) : Type 0 where
  pub costs : length subject.costs ≡ length subject.parts
  pub dear : All (λ c. 0 < c) subject.costs
  pub total : total_cost subject.costs < TOTAL_LIMIT
  pub vars : length subject.parts + length subject.wires ≤ subject.graph.vars
  pub few_parts : length subject.parts ≤ PART_LIMIT
  pub few_wires : length subject.wires ≤ WIRE_LIMIT
  pub few_vars : subject.graph.vars ≤ SERVED_VARIABLES
  pub few_nodes : length subject.graph.nodes < SERVED_NODES
  pub valid : IsGraph subject.graph
  pub parts_rise : names_rise subject.parts ≡ true
  pub wires_rise : names_rise subject.wires ≡ true
  pub levels : IfSome subject.extras.levels (CanList subject.graph (length subject.parts))
  pub least : subject.extras.least ≡ true → CanDraw subject.graph (length subject.parts)

-- the subject of these names, costs and graph, with a lister of states by rising cost, if there is one
abbrev pub basis_of : List Name → List Name → List ℕ → Graph → Option Kept → Bool → Subject
basis_of parts wires costs graph levels least = record {
  parts = parts;
  wires = wires;
  costs = costs;
  graph = graph;
  extras = record { levels = option_map (λ (kept : Kept). kept.top) levels; least = least };
}

-- the lister of states by rising cost, if there is one, was made for the graph
abbrev pub ListsLevels : Subject → Option Kept → Type 0
ListsLevels subject levels = IfSome levels (λ kept. IsFor subject.graph kept × (kept.costs ≡ subject.costs))

-- the sets of parts for drawing the graph of the diagnoses: kept with the lister of states, or else alone
abbrev pub HasSets : Subject → Option Kept → Option Sets → Type 0
HasSets subject levels sets =
    (levels ≡ None → subject.extras.least ≡ true → is_some sets ≡ true) × IfSome sets (AreFor subject.graph (length subject.costs))

-- the number of words in which a step by rising cost works
abbrev pub level_room : Subject → ℕ → ℕ
level_room subject top = length subject.costs + length subject.graph.nodes + (length subject.graph.nodes + 2) * (2 * cost_words top)

-- `words` words are enough for each answer that takes some: the probes of all wires, and a step by rising cost. The graph of the diagnoses
-- is drawn with fewer than the probes.
pub record AreEnough (subject : Subject) (words : ℕ) : Type 0 where
  pub probes : 4 * length subject.graph.nodes ≤ words
  pub level : IfSome subject.extras.levels (λ top. level_room subject top ≤ words)

-- the evidence is that of a case on each variable of the graph
abbrev pub AreKnown : Subject → List ℕ → Type 0
AreKnown subject evidence = IsEvidence (length subject.parts) (length subject.wires) subject.graph.vars evidence

-- the case that evidence says
abbrev pub case_in : Subject → List ℕ → Case
case_in subject evidence = case_of_evidence (length subject.parts) (length subject.wires) evidence
