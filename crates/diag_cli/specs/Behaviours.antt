-- What a run does with its words and its file: it prints an output, or answers the lines of a script.
use Rattle.std.specs.Prelude.{ℕ, false, List, [], ◌∷◌, ◌++◌, length, Option, Some, None, Result, Ok, Err, codes, nat_le, if◌then◌else◌}
use Rattle.std.specs.Result.{result_and}
use Rattle.std.specs.Fmt.{decimal}
use Rattle.text_rules.specs.declared.text_lines.TheConstants.{TEXT_LIMIT}
use Rattle.text_rules.specs.TextLines.{whole_lines, all_lines}
use Rattle.state_rules.specs.Systems.{System, with_extras}
use Rattle.diag_edge.specs.declared.loading.LoadError.{LoadError}
use Rattle.diag_edge.specs.declared.loading.LoadError.TheVariants.{Failed as LoadFailed, Long, Memory}
use Rattle.device_model.specs.Devices.{Device}
use Rattle.device_model.specs.Diagnosis.{device_system}
use Rattle.bench_reader.specs.declared.sequential.Sequential.{Sequential}
use Rattle.clause_encoder.specs.Clauses.{ClauseList}
use Rattle.clause_encoder.specs.Encoding.{encoded}
use Rattle.clause_encoder.specs.declared.encoding.EncodeError.{EncodeError}
use Rattle.frame_unroller.specs.Diagnosis.{frame_system}
use Rattle.elimination_forests.specs.Forests.{Forest}
use Rattle.dnnf_compiler.specs.Compiled.{most_nodes}
use Rattle.session_rules.specs.Items.{Item, Plain, Whole, line}
use Rattle.session_rules.specs.Sessions.{replies}
use Rattle.session_rules.specs.GraphSystems.{system_of}
use Rattle.device_files.specs.declared.status.Status.TheVariants.{Done, Refused, Usage, ReadFailed, CutShort}
use Rattle.device_files.specs.Output.{Output, says, too_long_line, no_memory, result_and_then}
use Rattle.device_files.specs.Describing.{described}
use Rattle.device_files.specs.Choices.{Weighed, weighed_by, clauses_by}
use Rattle.device_files.specs.Weighing.{if_not_too_many, within, output_within}
use Rattle.device_files.specs.Inspecting.{inspected}
use Rattle.device_files.specs.Checking.{graph_in}
use Rattle.diag_cli.specs.declared.serving.TheConstants.{SCRIPT_LIMIT}
use Rattle.diag_cli.specs.declared.words.ServeOptions.{ServeOptions}
use Rattle.diag_cli.specs.declared.words.Command.{Command}
use Rattle.diag_cli.specs.declared.words.Command.TheVariants.{Serve, ServeFrames, Ask, Inspect, Compile}
use Rattle.diag_cli.specs.Words.{Form, Load, Over}
use Rattle.diag_cli.specs.Besides.{in_few_bits}
use Rattle.diag_cli.specs.Frames.{sequential_in, if_unrolls, if_unrolled}
use Rattle.diag_cli.specs.Asking.{asked}
use Rattle.diag_cli.specs.Loads.{loaded}

-- ---- no file is read

abbrev pub read_error : List ℕ
read_error = codes "error: read\n"

-- what is printed if the file was not read, by the reason
abbrev pub not_loaded : LoadError → Output
not_loaded LoadFailed = says read_error ReadFailed
not_loaded (Long limit) = says (too_long_line (codes "file") TEXT_LIMIT) Refused
not_loaded Memory = no_memory

-- ---- a script is answered

-- how the reading of a script ends: at its end, at a failed read, or at the limit
pub data End : Type 0 where
  Ended : End
  Failed : End
  Cut : End

abbrev pub ready_line : System → Item
ready_line system = line (codes "ready" ∷ decimal (length system.parts) ∷ decimal (length system.wires) ∷ [])

-- The answers to the lines of a script over a system, with at most `sessions` sessions open: the line `ready`, then the replies.
abbrev pub answers_of : System → ℕ → List (List ℕ) → List Item
answers_of system sessions lines = ready_line system ∷ replies system sessions [] lines

-- the output with these answers, by how the script ends
abbrev pub served : (List (List ℕ) → List Item) → List ℕ → End → Output
served answers script Ended = record { items = answers (all_lines script); status = Done }
served answers script Failed = record { items = answers (whole_lines script) ++ Plain read_error ∷ []; status = ReadFailed }
served answers script Cut = record { items = answers (whole_lines script) ++ Plain (too_long_line (codes "script") SCRIPT_LIMIT) ∷ []; status = CutShort }

-- ---- a device is compiled

-- a graph of the device over the variables of the clauses, with at most this many nodes
abbrev pub graph_by : Device → Weighed → Output
graph_by device weighed = record { items = Whole device weighed.list.vars (most_nodes weighed.sum weighed.list.vars) ∷ []; status = Done }

-- ---- all forms

pub data Behaviour : Type 0 where
  Prints : (output : Output) → Behaviour
  AnswersScript : (answers : List (List ℕ) → List Item) → Behaviour

-- the device, if its sum is within the budget and its extras take few bits, or the output that says why not
abbrev pub if_within : ServeOptions → (Device → Result Weighed EncodeError) → Result Device Output → Result Device Output
if_within options clauses found = result_and_then (λ device.
    result_and (in_few_bits options.extras (length device.parts) (within options.budget (clauses device))) (Ok device)) found

-- the device, if its clauses are not too many, or the output that says so
abbrev pub if_encoded : Result Device Output → Result Device Output
if_encoded found = result_and_then (λ device. result_and (if_not_too_many (encoded device)) (Ok device)) found

-- the systems of a device, and of a netlist over `frames` times, with extras
abbrev pub served_device : ServeOptions → Device → System
served_device options device = with_extras options.extras (device_system device)

abbrev pub served_frames : ℕ → ServeOptions → Sequential → System
served_frames frames options seq = with_extras options.extras (frame_system seq frames)

-- the same for a search, which writes no graph
abbrev pub searched : ServeOptions → System → System
searched options system = record system { extras = record { levels = options.extras.levels; least = false }; graphs = false }

abbrev pub searched_device : ServeOptions → Device → System
searched_device options device = searched options (device_system device)

abbrev pub searched_frames : ℕ → ServeOptions → Sequential → System
searched_frames frames options seq = searched options (frame_system seq frames)

-- the script is answered over the system of what was found, with at most `sessions` sessions open
abbrev pub served_or_refused : {A : Type 0} → (A → System) → ℕ → Result A Output → Behaviour
served_or_refused system sessions (Ok found) = AnswersScript (answers_of (system found) sessions)
served_or_refused system sessions (Err output) = Prints output

-- what a command does with a file; `choose` gives the forest, if one is asked for
abbrev pub behaviour_by : (ClauseList → Option Forest) → List ℕ → Command → List ℕ → Behaviour
behaviour_by choose path (Serve options) file =
    if options.search then served_or_refused (searched_device options) options.sessions (if_encoded (described path file))
    else served_or_refused (served_device options) options.sessions (if_within options (clauses_by options.narrow choose) (described path file))
behaviour_by choose path (ServeFrames frames options) file =
    if options.search then served_or_refused (searched_frames frames options) options.sessions (if_unrolls frames (sequential_in file))
    else served_or_refused (served_frames frames options) options.sessions (if_unrolled frames options (weighed_by options.narrow choose) (sequential_in file))
behaviour_by choose path (Ask health sessions) file = served_or_refused system_of sessions (asked health (graph_in file))
behaviour_by choose path (Inspect inspection) file = Prints (inspected choose path inspection file)
behaviour_by choose path (Compile budget narrow) file = Prints (output_within budget (clauses_by narrow choose) graph_by (described path file))

-- what a run does, by its form; a file above the limit is refused before all else
abbrev pub behaviour_of : (ClauseList → Option Forest) → Option Form → List ℕ → Behaviour
behaviour_of choose None file = Prints (says (codes "error: usage\n") Usage)
behaviour_of choose (Some (Load places)) file = Prints (loaded places)
behaviour_of choose (Some (Over path command)) file =
    if nat_le (length file) TEXT_LIMIT then behaviour_by choose path command file else Prints (says (too_long_line (codes "file") TEXT_LIMIT) Refused)
