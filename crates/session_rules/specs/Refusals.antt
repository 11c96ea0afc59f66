-- Why a request is refused: the number and text of each refusal.
use Rattle.std.specs.Prelude.{ℕ, List, [], ◌∷◌, codes}
use Rattle.std.specs.Fmt.{decimal}
use Rattle.session_rules.specs.declared.refusal.Refusal.{Refusal}
use Rattle.session_rules.specs.declared.refusal.Refusal.TheVariants.{NoSession, OpenAlready, Full, NoWire, NoPart, NoLevels, NoLeast, NoGraph}

abbrev pub refusal_row : Refusal → ℕ × List ℕ
refusal_row NoSession = (6, codes "no session")
refusal_row OpenAlready = (7, codes "open already")
refusal_row Full = (8, codes "full")
refusal_row NoWire = (9, codes "no wire")
refusal_row NoPart = (10, codes "no part")
refusal_row NoLevels = (11, codes "no levels")
refusal_row NoLeast = (12, codes "no least")
refusal_row NoGraph = (13, codes "no graph")

-- the words of a refusal, by its number and text
abbrev pub error_words : ℕ × List ℕ → List (List ℕ)
error_words row = codes "error" ∷ decimal row.0 ∷ row.1 ∷ []
