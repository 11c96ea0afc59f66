-- Bytes of a script that are taken piece by piece, and the beginning of a line that they leave.
use Rattle.std.specs.Prelude.{◌≡◌, ℕ, ◌+◌, List, [], ◌∷◌, ◌++◌, take, Option, ◌==◌, if◌then◌else◌}
use Rattle.script_lang.specs.declared.limits.TheConstants.{LINE_LIMIT}
use Rattle.session_rules.specs.Sessions.{Table, Step}
use Rattle.session_rules.specs.Moves.{script_moves}
use Rattle.session_rules.specs.Carrying.{Makes}

-- the lines that line feeds end, after the beginning `line` of a line
abbrev pub ended_from : List ℕ → List ℕ → List (List ℕ)
ended_from line [] = []
ended_from line (byte ∷ bytes) = if byte == 10 then line ∷ ended_from [] bytes else ended_from (line ++ byte ∷ []) bytes

-- what comes after the last line feed, after the beginning `line` of a line
abbrev pub rest_from : List ℕ → List ℕ → List ℕ
rest_from line [] = line
rest_from line (byte ∷ bytes) = if byte == 10 then rest_from [] bytes else rest_from (line ++ byte ∷ []) bytes

-- what counts of a line: at most one byte past the longest
unfoldable pub kept : List ℕ → List ℕ
kept line = take (LINE_LIMIT + 1) line

-- a line has the moves of what is kept of it
pub record IsCut (one : Table → List ℕ → List Step) : Type 0 where
  pub same : (table : Table) (line : List ℕ) → one table (kept line) ≡ one table line

-- Bytes were taken after the beginning of a line: the moves of the lines that they end were made, and the beginning of a line is left.
pub record Fed (one : Table → List ℕ → List Step) (old new : Table) (line rest bytes : List ℕ) (before after : Option (List ℕ)) : Type 0 where
  pub made : Makes old new (script_moves one old (ended_from line bytes)) before after
  pub begun : kept rest ≡ kept (rest_from line bytes)
