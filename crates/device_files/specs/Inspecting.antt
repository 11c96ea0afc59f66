-- What is printed of a file alone, without a script: the size of a device, and that a text is a decomposable graph.
use Rattle.std.specs.Prelude.{ℕ, Bool, List, [], ◌∷◌, length, Option, None, codes, if◌then◌else◌}
use Rattle.std.specs.Bool.{then_some}
use Rattle.std.specs.Fmt.{decimal}
use Rattle.text_rules.specs.Names.{same_name}
use Rattle.text_rules.specs.Tokens.{spaced}
use Rattle.state_rules.specs.Graphs.{Graph, edges}
use Rattle.device_model.specs.Devices.{Device}
use Rattle.clause_encoder.specs.Clauses.{ClauseList}
use Rattle.branch_states.specs.declared.measuring.TheConstants.{BUDGET_LIMIT}
use Rattle.elimination_forests.specs.Forests.{Forest}
use Rattle.session_rules.specs.Items.{Item, line}
use Rattle.device_files.specs.declared.inspecting.Inspection.{Inspection}
use Rattle.device_files.specs.declared.inspecting.Inspection.TheVariants.{Plan, Check}
use Rattle.device_files.specs.declared.status.Status.TheVariants.{Done}
use Rattle.device_files.specs.Output.{Output, says, output_or_refusal}
use Rattle.device_files.specs.Paths.{ends_in, is_device_path}
use Rattle.device_files.specs.Describing.{described}
use Rattle.device_files.specs.Checking.{graph_in}
use Rattle.device_files.specs.Choices.{Weighed, clauses_by}
use Rattle.device_files.specs.Weighing.{output_within}

-- ---- words

-- the inspection that a word asks for, if it is for files with this path; `narrow` asks for a forest
abbrev pub inspection_named : List ℕ → List ℕ → Bool → Option Inspection
inspection_named word path narrow =
    if same_name word (codes "plan") then then_some (is_device_path path) (Plan narrow)
    else if same_name word (codes "check") then then_some (ends_in (codes ".nnf") path) Check
    else None

-- ---- a device is planned

-- a word and a number
abbrev pub count_line : List ℕ → ℕ → Item
count_line what count = line (what ∷ decimal count ∷ [])

-- the numbers of parts, wires and clauses, and the sum of the clauses
abbrev pub planned : Device → Weighed → Output
planned device weighed = record {
  items = count_line (codes "parts") (length device.parts) ∷ count_line (codes "wires") (length device.wires)
      ∷ count_line (codes "clauses") (length weighed.list.clauses) ∷ count_line (codes "sum") weighed.sum ∷ [];
  status = Done;
}

-- ---- a graph is checked

-- the numbers of nodes, children and variables of a decomposable graph
abbrev pub decomposable_output : Graph → Output
decomposable_output graph = says (spaced (codes "decomposable" ∷ decimal (length graph.nodes) ∷ decimal (edges graph.nodes) ∷ decimal graph.vars ∷ [])) Done

-- ---- all inspections

-- what each prints of a file; `choose` chooses forests, if one is asked for
abbrev pub inspected : (ClauseList → Option Forest) → List ℕ → Inspection → List ℕ → Output
inspected choose path (Plan narrow) file = output_within BUDGET_LIMIT (clauses_by narrow choose) planned (described path file)
inspected choose path Check file = output_or_refusal decomposable_output (graph_in file)
