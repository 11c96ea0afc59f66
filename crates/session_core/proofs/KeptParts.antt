-- What stays the same while the table changes.
use Rattle.std.proofs.Common.{◌≡◌, ◌∙◌, ap}
use Rattle.session_core.specs.Services.{Shown, moves_of, ChangesTable}

pub stays_more : (a b c : Shown) → ChangesTable a b → ChangesTable b c → ChangesTable a c
stays_more a b c first second = second ∙ ap (λ (s : Shown). record s { table = c.table }) first

-- lines have the same moves
pub moves_stay : (a b : Shown) → ChangesTable a b → moves_of b ≡ moves_of a
moves_stay a b stays = ap moves_of stays
