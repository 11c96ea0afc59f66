-- How a service answers a script.
use Rattle.std.specs.Prelude.{◌≡◌, ◌⊎◌, ◌<◌, ◌≤◌, ℕ, List, ◌++◌, length, Option}
use Rattle.text_rules.specs.TextLines.{cut, whole_lines, last_line, all_lines}
use Rattle.session_rules.specs.Sessions.{Table, Step}
use Rattle.session_rules.specs.Moves.{script_moves}
use Rattle.session_rules.specs.Carrying.{Makes, BreaksOff}
use Rattle.session_core.specs.declared.serving.TheConstants.{READ_LIMIT}
use Rattle.session_core.specs.declared.serving.ServeEnd.{ServeEnd}
use Rattle.session_core.specs.declared.serving.ServeEnd.TheVariants.{Done, ReadFault, WriteFault, Limit}

-- Some lines were answered, and a write failed in the lines after them.
pub record FailsBehind (one : Table → List ℕ → List Step) (old new : Table) (answered lines : List (List ℕ)) (before after : Option (List ℕ)) : Type 0 where
  pub table : Table
  pub middle : Option (List ℕ)
  pub made : Makes old table (script_moves one old answered) before middle
  pub broke : BreaksOff new (script_moves one table lines) middle after

-- A write failed in the lines that the last read ended, and nothing was read afterwards. All that was read before, except the bytes of one
-- read, was answered.
pub record FailsAtOnce (one : Table → List ℕ → List Step) (old new : Table) (bytes : List ℕ) (before after : Option (List ℕ)) : Type 0 where
  pub fed : List ℕ
  pub piece : List ℕ
  pub parts : bytes ≡ fed ++ piece
  pub one_read : length piece ≤ READ_LIMIT
  pub lines : List (List ℕ)
  pub ended : whole_lines bytes ≡ whole_lines fed ++ lines
  pub failed : FailsBehind one old new (whole_lines fed) lines before after

-- What was done with the bytes that were taken, by how the script ended, if each line has these moves. At the end of the script a write may
-- also fail in a last line without a line feed.
abbrev pub Served : ServeEnd → (Table → List ℕ → List Step) → Table → Table → List ℕ → ℕ → Type 0 → Option (List ℕ) → Option (List ℕ) → Type 0
Served Done one old new bytes limit at_end before after =
    at_end × (length bytes < limit) × Makes old new (script_moves one old (all_lines bytes)) before after
Served ReadFault one old new bytes limit at_end before after =
    (length bytes < limit) × Makes old new (script_moves one old (whole_lines bytes)) before after
Served Limit one old new bytes limit at_end before after =
    (length bytes ≡ limit) × Makes old new (script_moves one old (whole_lines bytes)) before after
Served WriteFault one old new bytes limit at_end before after =
    (length bytes ≤ limit) × (FailsAtOnce one old new bytes before after
    ⊎ (at_end × (length bytes < limit) × FailsBehind one old new (whole_lines bytes) (last_line (cut bytes).unfinished) before after))
