-- The graphs of clauses.
use Rattle.std.specs.Prelude.{◌≡◌, ◌≤◌, length, Result, Ok, Err}
use Rattle.text_rules.specs.Expected.{IsExpectedFault}
use Rattle.state_rules.specs.Graphs.{Graph, IsGraph}
use Rattle.device_model.specs.Devices.{Device}
use Rattle.dnnf_compiler.specs.Compiled.{SaysAll, most_nodes}
use Rattle.device_files.specs.declared.refusal.Refusal.{Refusal}
use Rattle.device_files.specs.Choices.{Weighed}
use Rattle.device_files.specs.Output.{Output}
use Rattle.device_files.specs.Refusals.{refusal_output}
use Rattle.diag_cli.specs.inner.Serving.{IsServable}

-- The graph is true exactly if all clauses are, and their sum bounds its size.
pub record IsGraphBy (weighed : Weighed) (graph : Graph) : Type 0 where
  pub decomposable : IsGraph graph
  pub vars : graph.vars ≡ weighed.list.vars
  pub truth : SaysAll weighed.list.clauses graph
  pub few_nodes : length graph.nodes ≤ most_nodes weighed.sum weighed.list.vars

-- the graph of a device, if its clauses are within a budget, or the expected refusal
abbrev pub FulfilsGraph : Device → Result Weighed Output → Result Graph Refusal → Type 0
FulfilsGraph device expected (Ok graph) = IsServable device graph × ((weighed : Weighed) × (expected ≡ Ok weighed) × IsGraphBy weighed graph)
FulfilsGraph device expected (Err refusal) = IsExpectedFault (refusal_output refusal) expected
