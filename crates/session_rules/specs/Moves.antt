-- The moves of lines given as bytes.
use Rattle.std.specs.Prelude.{ℕ, List, [], ◌∷◌, ◌++◌}
use Rattle.state_rules.specs.Systems.{System}
use Rattle.script_lang.specs.Script.{line_of}
use Rattle.session_rules.specs.Sessions.{Table, Step, moves, left_by}

abbrev pub line_moves : System → ℕ → Table → List ℕ → List Step
line_moves system limit table bytes = moves system limit table (line_of bytes)

-- the moves of lines answered one after the other
abbrev pub script_moves : (Table → List ℕ → List Step) → Table → List (List ℕ) → List Step
script_moves one table [] = []
script_moves one table (line ∷ lines) =
    let first = one table line in first ++ script_moves one (left_by table first) lines
