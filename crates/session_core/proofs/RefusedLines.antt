-- A refused line changes nothing.
use Rattle.std.proofs.Common.{◌≡◌, ℕ, List, [], ◌∷◌, ◌++◌, map, Option, Result, refl, ap, arith}
use Rattle.script_lang.specs.Script.{Line, Blank, Refused, Ask, line_of}
use Rattle.session_rules.specs.Sessions.{Table, Step}
use Rattle.session_rules.specs.Carrying.{CarriesOut}
use Rattle.session_rules.proofs.KeptCases.{step_from}
use Rattle.session_core.specs.Services.{Shown, exact_moves, moves_of, IsRefused, ChangesTable}

-- ---- one move that keeps the table

no_more : (made others : List Step) (move : Step) → [] ≡ made ++ move ∷ others → ⊥
no_more [] others move e = cc
no_more (m ∷ made) others move e = cc

the_move : (made others : List Step) (m move : Step) → m ∷ [] ≡ made ++ move ∷ others → m ≡ move
the_move [] others m move e = cc
the_move (x ∷ made) others m move e = let rest : [] ≡ made ++ move ∷ others = cc in absurd (no_more made others move rest)

one_kept : {T E : Type 0} (old new : Table) (m : Step) (a b : Option (List ℕ)) (r : Result T E) → m.table ≡ old → CarriesOut old new (m ∷ []) a b r → new ≡ old
one_kept old new m a b r same given = grind (arith, the_move)

-- ---- the moves of a refused line

abbrev Keeps : Table → List Step → Type 0
Keeps table ms = (m : Step) × (ms ≡ m ∷ []) × (m.table ≡ table)

refused_moves : (shown : Shown) (line : Line) → IsRefused shown line → Keeps shown.table (exact_moves shown shown.table line)
refused_moves shown Blank is = absurd is
refused_moves shown (Refused refusal) is = (_, refl, refl)
refused_moves shown (Ask s request) is = (_, ap (map (step_from shown.table s)) is.1, refl)

pub refused_stays : {T E : Type 0} (old new : Shown) (line : List ℕ) (a b : Option (List ℕ)) (r : Result T E) → ChangesTable old new
    → CarriesOut old.table new.table (moves_of old old.table line) a b r → IsRefused old (line_of line) → new ≡ old
refused_stays old new line a b r stays carried_out is = grind (arith, refused_moves, one_kept)
