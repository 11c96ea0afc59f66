-- Lines that say why a file or a count is refused.
use Rattle.std.specs.Prelude.{ℕ, List, [], ◌∷◌, ◌++◌, codes}
use Rattle.std.specs.Fmt.{decimal}
use Rattle.text_rules.specs.Tokens.{spaced}

-- the error line of a fault, with its line, its number and its name
abbrev pub fault_line : ℕ → ℕ → List ℕ → List ℕ
fault_line line number name =
    spaced (codes "error: line" ∷ (decimal line ++ codes ":") ∷ codes "fault" ∷ decimal number ∷ name ∷ [])

-- the error line of a count above its limit
abbrev pub above_line : List ℕ → ℕ → ℕ → List ℕ
above_line what count limit = spaced (codes "error:" ∷ what ∷ decimal count ∷ codes "above" ∷ decimal limit ∷ [])
