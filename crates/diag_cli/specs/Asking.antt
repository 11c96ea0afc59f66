-- What `ask` is about: a graph without a device.
use Rattle.std.specs.Prelude.{ℕ, List, Result, Ok, codes}
use Rattle.std.specs.Result.{result_and}
use Rattle.state_rules.specs.Graphs.{Graph}
use Rattle.diag_edge.specs.ErrorLines.{above_line}
use Rattle.device_model.specs.declared.limits.TheConstants.{WIRE_LIMIT}
use Rattle.session_rules.specs.GraphSystems.{Subject}
use Rattle.nnf_ask.specs.declared.names.AskError.{AskError}
use Rattle.nnf_ask.specs.declared.names.AskError.TheVariants.{Health, Wires, Memory}
use Rattle.nnf_ask.specs.Asking.{asked_names, asked_subject}
use Rattle.device_files.specs.Output.{Output, no_memory_line, result_and_then}
use Rattle.device_files.specs.Describing.{or_line}

-- the line that says why the variables get no names
abbrev pub asking_line : AskError → List ℕ
asking_line (Health health vars) = above_line (codes "health") health vars
asking_line (Wires count) = above_line (codes "wires") count WIRE_LIMIT
asking_line Memory = no_memory_line

-- the subject over a graph with `health` parts, if its variables get names, or the output that refuses it
abbrev pub asked : ℕ → Result Graph Output → Result Subject Output
asked health found =
    result_and_then (λ graph. result_and (or_line asking_line (asked_names health graph.vars)) (Ok (asked_subject health graph))) found
