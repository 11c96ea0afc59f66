-- What holds of each run of the program.
use Rattle.std.specs.Prelude.{◌≡◌, ◌⊎◌, ◌+◌, ◌<◌, ◌≤◌, ℕ, min, List, length, Option, None, IfSome}
use Rattle.std.specs.Option.{IsSome}
use Rattle.text_rules.specs.declared.text_lines.TheConstants.{TEXT_LIMIT}
use Rattle.diag_edge.specs.Edge.{RoseExactly, Holding, absent, Reading, Writing}
use Rattle.clause_encoder.specs.Clauses.{ClauseList}
use Rattle.elimination_forests.specs.Forests.{Forest}
use Rattle.diag_cli.specs.Words.{Form, named_file, known_file}
use Rattle.device_files.specs.declared.status.Status.{Status}
use Rattle.device_files.specs.declared.status.Status.TheVariants.{ReadFailed, WriteFailed}
use Rattle.device_files.specs.Output.{no_memory, says}
use Rattle.diag_cli.specs.Fulfilled.{IsIdle, FulfilsBehaviour}
use Rattle.diag_cli.specs.Behaviours.{Prints, read_error, behaviour_of}

-- What was done with a file of these bytes, which are those on the shelf, if it shows them. All were taken; of a file above the limit only
-- the limit and one byte.
pub record IsDone (choose : ClauseList → Option Forest) (form : Option Form) (told : Option (List ℕ)) (shelf new_shelf input new_input : Reading) (out new_out : Writing) (status : Status) : Type 0 where
  pub file : List ℕ
  pub is_told : IfSome told (λ bytes. file ≡ bytes)
  pub taken : new_shelf.taken ≡ shelf.taken + min (length file) (TEXT_LIMIT + 1)
  pub follows : FulfilsBehaviour (behaviour_of choose form file) input new_input out new_out status

-- What holds of a run with words of this form, over a shelf with these files. `choose` gives the forest if the words ask for one.
pub record IsRun (choose : ClauseList → Option Forest) (form : Option Form) (held : List ℕ → Holding) (shelf new_shelf input new_input : Reading) (out new_out : Writing) (status : Status) : Type 0 where
  -- The file's bytes decided all that was done; or memory ran out before the script was begun, which happens only to words with a form; or
  -- a read of the file failed, and the output says so.
  pub done : ((new_shelf.faults ≡ shelf.faults) × (IsDone choose form (known_file held (named_file form)) shelf new_shelf input new_input out new_out status
      ⊎ (IsSome form × FulfilsBehaviour (Prints no_memory) input new_input out new_out status)))
      ⊎ ((shelf.faults < new_shelf.faults) × FulfilsBehaviour (Prints (says read_error ReadFailed)) input new_input out new_out status)
  -- The status is `WriteFailed` exactly if a write failed.
  pub write_fault : RoseExactly out.faults new_out.faults (status ≡ WriteFailed)
  -- If no file is named, nothing is read from the shelf. A file that is absent cannot be read.
  pub no_name : named_file form ≡ None → IsIdle shelf new_shelf
  pub absent_file : IfSome (named_file form) (λ name. held name ≡ absent → shelf.faults < new_shelf.faults)
  -- At most the bytes of the file are taken from the shelf, and at most one more than the limit of a file.
  pub file_once : IfSome (known_file held (named_file form)) (λ file. new_shelf.taken ≤ shelf.taken + length file)
  pub file_taken : new_shelf.taken ≤ shelf.taken + TEXT_LIMIT + 1
