-- The system of a graph, with the texts that its engine writes.
use Rattle.std.specs.Prelude.{ℕ, ◌+◌, ◌*◌, ◌^◌, ◌<◌, ◌≤◌, List, length, Some}
use Rattle.state_rules.specs.Cases.{Case}
use Rattle.state_rules.specs.Systems.{System, with_texts}
use Rattle.state_rules.specs.Graphs.{Graph, edges}
use Rattle.projector.specs.Projecting.{projected_text}
use Rattle.level_lister.specs.Listing.{cost_words}
use Rattle.smooth_nnf.specs.Layouts.{least_text}
use Rattle.smooth_nnf.specs.Sizes.{drawing_bits}
use Rattle.session_rules.specs.GraphSystems.{Subject, system_of, case_evidence}
use Rattle.session_rules.specs.CaseEvidence.{case_of_evidence}
use Rattle.engines.specs.Answers.{About}
use Rattle.graph_engine.specs.declared.limits.TheConstants.{SERVED_BITS}

-- States can be listed up to cost `top`. The sets of the nodes have few bits: for each node one for each part, and those of its costs.
pub record CanList (graph : Graph) (parts top : ℕ) : Type 0 where
  pub few : length graph.nodes * (parts + 32 * cost_words top) ≤ SERVED_BITS

-- The graph of the diagnoses can be written: its lines can be numbered, and it takes few bits to draw.
pub record CanDraw (graph : Graph) (parts : ℕ) : Type 0 where
  pub lines : length graph.nodes + edges graph.nodes + 2 * parts + 1 < 2 ^ 32
  pub few : drawing_bits (length graph.nodes) parts ≤ SERVED_BITS

-- the text of the states that agree with a case: one for a graph and a case, whichever session asks and however often
abbrev pub case_text : Subject → Case → List ℕ
case_text subject known = projected_text subject.graph (case_evidence subject.graph.vars known) (length subject.parts)

-- the same for the graph of the diagnoses
abbrev pub least_case_text : Subject → Case → List ℕ
least_case_text subject known = least_text subject.graph (case_evidence subject.graph.vars known) subject.costs

-- the system of a graph, with these texts
abbrev pub served_system : Subject → System
served_system subject = with_texts (record { dnnf = Some (case_text subject); least = Some (least_case_text subject) }) (system_of subject)

-- what a graph's engine shows: its subject, and the words of the case in question
pub record OnGraph : Type 0 where
  pub subject : Subject
  pub known : List ℕ

-- what it answers about
abbrev pub about_of : OnGraph → About
about_of engine = record {
  system = served_system engine.subject;
  known = case_of_evidence (length engine.subject.parts) (length engine.subject.wires) engine.known;
}
