-- Services, and the graphs that they take.
use Rattle.std.specs.Prelude.{◌≡◌, ◌⊎◌, ◌<◌, ◌≤◌, ℕ, true, List, [], length, Option, Some, None, Result, Ok, Err, IfSome}
use Rattle.state_rules.specs.declared.extras.Extras.{Extras}
use Rattle.state_rules.specs.Graphs.{Graph, IsGraph}
use Rattle.state_rules.specs.Systems.{System}
use Rattle.diag_edge.specs.Edge.{Reading, Writing}
use Rattle.device_model.specs.Devices.{Device}
use Rattle.frame_unroller.specs.declared.unrolling.UnrollError.{UnrollError}
use Rattle.frame_unroller.specs.declared.unrolling.UnrollError.TheVariants.{Memory as NoMemory}
use Rattle.session_rules.specs.Spelling.{IsGraphOf}
use Rattle.session_rules.specs.Items.{Item}
use Rattle.session_core.specs.Services.{Shown, open_system}
use Rattle.graph_engine.specs.declared.limits.TheConstants.{SERVED_VARIABLES, SERVED_NODES}
use Rattle.graph_engine.specs.Served.{CanList, CanDraw}
use Rattle.device_files.specs.declared.refusal.Refusal.{Refusal}
use Rattle.device_files.specs.declared.status.Status.{Status}
use Rattle.device_files.specs.Output.{Output, no_memory}
use Rattle.device_files.specs.Refusals.{refusal_output}
use Rattle.diag_cli.specs.Behaviours.{Behaviour, Prints, AnswersScript, answers_of}
use Rattle.diag_cli.specs.Fulfilled.{FulfilsBehaviour}
use Rattle.diag_cli.specs.Frames.{not_unrolled}

-- The graph is true exactly if the device fits, and a service can take it.
pub record IsServable (device : Device) (graph : Graph) : Type 0 where
  pub valid : IsGraph graph
  pub meaning : IsGraphOf device graph
  pub few_vars : graph.vars ≤ SERVED_VARIABLES
  pub few_nodes : length graph.nodes < SERVED_NODES

-- The extras take few bits over a graph of `parts` parts.
pub record CanTell (extras : Extras) (graph : Graph) (parts : ℕ) : Type 0 where
  pub levels : IfSome extras.levels (CanList graph parts)
  pub least : extras.least ≡ true → CanDraw graph parts

-- the answers of a service, by what it shows
abbrev pub answers_by : Shown → List (List ℕ) → List Item
answers_by shown = answers_of (open_system shown.system) shown.limit

-- No session is open, and lines are answered as over the system with at most `sessions` sessions open.
pub record Answers (system : System) (sessions : ℕ) (shown : Shown) : Type 0 where
  pub none_open : shown.table ≡ []
  pub same : answers_by shown ≡ answers_of system sessions

-- The service that was made answers as the behaviour does, or the behaviour prints its refusal. `show` gives what a service shows.
abbrev pub IsFor : {S : Type 0} → (S → Shown) → Behaviour → Result S Refusal → Type 0
IsFor show behaviour (Ok service) = behaviour ≡ AnswersScript (answers_by (show service))
IsFor show behaviour (Err refusal) = IfSome (refusal_output refusal) (λ output. behaviour ≡ Prints output)

-- Memory ran out before the script was begun, or the behaviour was followed.
abbrev pub FulfilsBehaviourUnlessMemory : Behaviour → Reading → Reading → Writing → Writing → Status → Type 0
FulfilsBehaviourUnlessMemory behaviour input new_input out new_out status = FulfilsBehaviour (Prints no_memory) input new_input out new_out status ⊎ FulfilsBehaviour behaviour input new_input out new_out status

-- the output if a netlist is not unrolled, or none if memory ran out
abbrev pub frames_refusal : UnrollError → Option Output
frames_refusal NoMemory = None
frames_refusal error = Some (not_unrolled error)
