-- What follows from `IsRun`, clause by clause: a law of `laws.rt`.
use Rattle.std.specs.Prelude.{◌≡◌, ◌≢◌, ◌⊎◌, ◌↔◌, ◌+◌, ◌<◌, ◌≤◌, ℕ, Bool, true, false, List, length, take, Option, Some, None, IfSome, nat_lt, if◌then◌else◌}
use Rattle.std.specs.Option.{IsSome, option_map}
use Rattle.std.specs.Io.KnownBytes.{Consumes, IsAtEnd}
use Rattle.text_rules.specs.TextLines.{whole_lines}
use Rattle.diag_edge.specs.Edge.{Holding, Reading, Writing}
use Rattle.clause_encoder.specs.Clauses.{ClauseList}
use Rattle.elimination_forests.specs.Forests.{Forest}
use Rattle.session_rules.specs.Items.{Item}
use Rattle.session_rules.specs.Spelling.{Writes}
use Rattle.diag_cli.specs.declared.serving.TheConstants.{SCRIPT_LIMIT}
use Rattle.diag_cli.specs.declared.words.Command.TheVariants.{Serve, ServeFrames, Ask}
use Rattle.diag_cli.specs.Words.{Form, Over, named_file, known_file}
use Rattle.device_files.specs.declared.status.Status.{Status}
use Rattle.device_files.specs.declared.status.Status.TheVariants.{Done, Usage, ReadFailed, WriteFailed, NoMemory, CutShort}
use Rattle.device_files.specs.Output.{Output, FulfilsOutput, no_memory, says}
use Rattle.diag_cli.specs.Fulfilled.{IsIdle, WritesFirst, IsStopped}
use Rattle.diag_cli.specs.Behaviours.{End, Ended, Failed, Cut, Behaviour, Prints, AnswersScript, read_error, served, behaviour_of}

-- only `serve` and `ask` ask for a script
abbrev pub asks_script : Option Form → Bool
asks_script (Some (Over path (Serve options))) = true
asks_script (Some (Over path (ServeFrames frames options))) = true
asks_script (Some (Over path (Ask health sessions))) = true
asks_script form = false

-- a script as long as the limit or longer is cut
abbrev pub end_of : List ℕ → End
end_of script = if nat_lt (length script) SCRIPT_LIMIT then Ended else Cut

-- the output if no read of the script fails
abbrev pub wholly_served : (List (List ℕ) → List Item) → List ℕ → Output
wholly_served answers script = served answers (take SCRIPT_LIMIT script) (end_of script)

-- the output of a behaviour, if the script that it may need is shown
abbrev pub whole_output : Behaviour → Option (List ℕ) → Option Output
whole_output (Prints output) left = Some output
whole_output (AnswersScript answers) left = option_map (wholly_served answers) left

-- the output was given, or memory ran out (which needs words with a form)
abbrev pub FulfilsOutputUnlessShort : Option Form → Output → Status → Option (List ℕ) → Option (List ℕ) → Type 0
FulfilsOutputUnlessShort form output status before after = (IsSome form × FulfilsOutput no_memory status before after) ⊎ FulfilsOutput output status before after

-- What else holds of each run, by its words, over a shelf that holds these files, with its input and its output.
pub record HasDetails (choose : ClauseList → Option Forest) (form : Option Form) (held : List ℕ → Holding) (shelf new_shelf input new_input : Reading) (out new_out : Writing) (status : Status) : Type 0 where
  -- Without a failed write the status is `ReadFailed` exactly if a read failed.
  pub read_fault : status ≢ WriteFailed → (status ≡ ReadFailed) ↔ ((shelf.faults < new_shelf.faults) ⊎ (input.faults < new_input.faults))
  -- With any other status, no read failed.
  pub no_fault : status ≢ ReadFailed → status ≢ WriteFailed → (new_shelf.faults ≡ shelf.faults) × (new_input.faults ≡ input.faults)
  -- Without a failed write the status is `Usage` exactly if the words have no form.
  pub usage : status ≢ WriteFailed → (status ≡ Usage) ↔ (form ≡ None)
  -- If the file is not read, the script is not begun, and one line is written.
  pub no_file : shelf.faults < new_shelf.faults → IsIdle input new_input × FulfilsOutput (says read_error ReadFailed) status out.got new_out.got
  -- If the words ask for no script, or the file is refused, no script is read.
  pub not_asked : asks_script form ≡ false → IsIdle input new_input
  pub no_script : IfSome (known_file held (named_file form)) (λ file. (output : Output) → behaviour_of choose form file ≡ Prints output → IsIdle input new_input)
  -- If no read failed, the output is that for the words, the file and the script, or memory ran out for words with a form.
  pub output : IfSome (known_file held (named_file form)) (λ file. IfSome (whole_output (behaviour_of choose form file) input.left) (λ output.
      new_shelf.faults ≡ shelf.faults → new_input.faults ≡ input.faults → FulfilsOutputUnlessShort form output status out.got new_out.got))
  -- If that output has status `Done` and no write failed either, the status is `Done` and all was written, or the status is `NoMemory`,
  -- with the one line for it.
  pub complete : IfSome (known_file held (named_file form)) (λ file. IfSome (whole_output (behaviour_of choose form file) input.left) (λ output.
      output.status ≡ Done → new_shelf.faults ≡ shelf.faults → new_input.faults ≡ input.faults → new_out.faults ≡ out.faults →
      ((status ≡ Done) × Writes out.got new_out.got output.items) ⊎ ((status ≡ NoMemory) × Writes out.got new_out.got no_memory.items)))
  -- If a read of the script failed, the lines that a line feed ended before were answered.
  pub script_fault : IfSome (known_file held (named_file form)) (λ file. (answers : List (List ℕ) → List Item) → behaviour_of choose form file ≡ AnswersScript answers →
      input.faults < new_input.faults →
      (bytes : List ℕ) × (new_input.taken ≡ input.taken + length bytes) × Consumes input.left new_input.left bytes
      × WritesFirst out.got new_out.got (answers (whole_lines bytes)) × FulfilsOutput (served answers bytes Failed) status out.got new_out.got)
  -- If a write failed, all bytes taken of the script, except those of one read, were answered.
  pub stopped : IfSome (known_file held (named_file form)) (λ file. (answers : List (List ℕ) → List Item) → behaviour_of choose form file ≡ AnswersScript answers →
      status ≡ WriteFailed → input.taken < new_input.taken →
      (bytes : List ℕ) × (new_input.taken ≡ input.taken + length bytes) × Consumes input.left new_input.left bytes × IsStopped answers bytes out.got new_out.got)
  -- If memory ran out, the script was not begun.
  pub memory : status ≡ NoMemory → IsIdle input new_input
  -- With status `Done`, a script that is answered was read to its end.
  pub all_read : IfSome (known_file held (named_file form)) (λ file. (answers : List (List ℕ) → List Item) → behaviour_of choose form file ≡ AnswersScript answers → status ≡ Done → IsAtEnd new_input.left)
  -- At most the limit of bytes is taken of the script.
  pub script_taken : new_input.taken ≤ input.taken + SCRIPT_LIMIT
  -- With status `CutShort`, exactly the limit was taken of the script. With any other status less was taken, unless a write failed.
  pub cut : status ≢ WriteFailed → (status ≡ CutShort) ↔ (new_input.taken ≡ input.taken + SCRIPT_LIMIT)
