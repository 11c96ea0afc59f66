-- What a behaviour did with the input and the output.
use Rattle.std.specs.Prelude.{◌≡◌, ◌⊎◌, ◌+◌, ◌<◌, ◌≤◌, ℕ, List, ◌++◌, length, Option}
use Rattle.std.specs.Io.KnownBytes.{Appends, Consumes, IsAtEnd}
use Rattle.text_rules.specs.TextLines.{whole_lines, all_lines}
use Rattle.diag_edge.specs.Edge.{Reading, Writing}
use Rattle.session_rules.specs.Items.{Item}
use Rattle.session_rules.specs.Spelling.{Writes, WritesPart}
use Rattle.session_core.specs.declared.serving.TheConstants.{READ_LIMIT}
use Rattle.diag_cli.specs.declared.serving.TheConstants.{SCRIPT_LIMIT}
use Rattle.device_files.specs.declared.status.Status.{Status}
use Rattle.device_files.specs.declared.status.Status.TheVariants.{WriteFailed}
use Rattle.device_files.specs.Output.{FulfilsOutput}
use Rattle.diag_cli.specs.Behaviours.{End, Ended, Failed, Cut, Behaviour, Prints, AnswersScript, served}

-- nothing was taken, no call failed, and what is still to come is unchanged
pub record IsIdle (before after : Reading) : Type 0 where
  pub left : after.left ≡ before.left
  pub taken : after.taken ≡ before.taken
  pub faults : after.faults ≡ before.faults

-- the items were written, and perhaps more after them
pub record WritesFirst (before after : Option (List ℕ)) (items : List Item) : Type 0 where
  pub middle : Option (List ℕ)
  pub written : Writes before middle items
  pub text : List ℕ
  pub more : Appends middle after text

-- what is known of the end of a script of which these bytes were taken
abbrev pub EndsAs : End → List ℕ → Reading → Reading → Type 0
EndsAs Ended bytes input new_input = IsAtEnd new_input.left × (length bytes < SCRIPT_LIMIT) × (new_input.faults ≡ input.faults)
EndsAs Failed bytes input new_input = (length bytes < SCRIPT_LIMIT) × (input.faults < new_input.faults)
EndsAs Cut bytes input new_input = (length bytes ≡ SCRIPT_LIMIT) × (new_input.faults ≡ input.faults)

-- All ended lines were answered. A write can only have failed later: in the answer to a last line without a line feed, or in the line that
-- says why the script ended.
pub record IsAnswered (answers : List (List ℕ) → List Item) (bytes : List ℕ) (input new_input : Reading) (out new_out : Writing) (status : Status) : Type 0 where
  pub end : End
  pub ends : EndsAs end bytes input new_input
  pub answered : WritesFirst out.got new_out.got (answers (whole_lines bytes))
  pub gives : FulfilsOutput (served answers bytes end) status out.got new_out.got

-- A write failed after these bytes of the script were taken. Except in a last piece of at most one read, every ended line was answered, and
-- its answer written.
pub record IsStopped (answers : List (List ℕ) → List Item) (bytes : List ℕ) (before after : Option (List ℕ)) : Type 0 where
  pub fed : List ℕ
  pub piece : List ℕ
  pub parts : bytes ≡ fed ++ piece
  pub one_read : length piece ≤ READ_LIMIT
  pub answered : WritesFirst before after (answers (whole_lines fed))

-- A write failed before all ended lines were answered. What was written begins the answers to the lines taken, whatever lines follow: the
-- ended ones, or all if the script ended.
pub record IsBroken (answers : List (List ℕ) → List Item) (bytes : List ℕ) (input new_input : Reading) (out new_out : Writing) : Type 0 where
  pub reads : new_input.faults ≡ input.faults
  pub lines : List (List ℕ)
  pub are : ((length bytes ≤ SCRIPT_LIMIT) × (lines ≡ whole_lines bytes)) ⊎ (IsAtEnd new_input.left × (length bytes < SCRIPT_LIMIT) × (lines ≡ all_lines bytes))
  pub begun : (more : List (List ℕ)) → WritesPart out.got new_out.got (answers (lines ++ more))
  pub stopped : 0 < length bytes → IsStopped answers bytes out.got new_out.got

-- Bytes of a script were taken and answered, or a write failed before that.
pub record IsServed (answers : List (List ℕ) → List Item) (input new_input : Reading) (out new_out : Writing) (status : Status) : Type 0 where
  pub bytes : List ℕ
  pub counted : new_input.taken ≡ input.taken + length bytes
  pub took : Consumes input.left new_input.left bytes
  pub wrote : IsAnswered answers bytes input new_input out new_out status ⊎ ((status ≡ WriteFailed) × IsBroken answers bytes input new_input out new_out)

-- the effect of a behaviour
abbrev pub FulfilsBehaviour : Behaviour → Reading → Reading → Writing → Writing → Status → Type 0
FulfilsBehaviour (Prints output) input new_input out new_out status = IsIdle input new_input × FulfilsOutput output status out.got new_out.got
FulfilsBehaviour (AnswersScript answers) input new_input out new_out status = IsServed answers input new_input out new_out status
