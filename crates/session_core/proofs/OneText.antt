-- What a service writes is one text: if the moves of a script were made twice after the same bytes, the bytes are the same.
use Rattle.std.proofs.Common.{◌≡◌, ℕ, zero, suc, Bool, List, [], ◌∷◌, ◌++◌, map, Option, Some, None, true, sym, subst, ◌∙◌, append-nil, arith}
use Rattle.std.specs.Prelude.{length, nat_le, is_some}
use Rattle.std.specs.List.{flat_map}
use Rattle.text_rules.specs.Names.{Name}
use Rattle.script_lang.specs.Script.{Line, Blank, Refused, Ask, Request}
use Rattle.session_rules.specs.Items.{Item, Plain, Projected, LeastText, Whole, line}
use Rattle.session_rules.specs.Replies.{Found, listing, dnnf_item, least_item}
use Rattle.engines.specs.Offered.{IsOffered}
use Rattle.state_rules.specs.Cases.{Case}
use Rattle.std.specs.Option.{option_map_or}
use Rattle.session_rules.specs.Sessions.{Table, Entry, Becomes, Move, entry_of, outcome, moves, said, left_by}
use Rattle.session_rules.specs.Moves.{script_moves}
use Rattle.session_rules.specs.Spelling.{Spells}
use Rattle.session_rules.specs.Carrying.{Makes}
use Rattle.state_rules.specs.Systems.{System}
use Rattle.session_rules.proofs.Broken.{said-append}
use Rattle.session_rules.proofs.Locality.{moves-said}
use Rattle.session_core.specs.Services.{Shown, moves_of}

-- the items are texts
abbrev pub ArePlain : List Item → Type 0
ArePlain [] = Unit {0}
ArePlain (Plain bytes ∷ items) = ArePlain items
ArePlain (Projected parts states ∷ items) = ⊥
ArePlain (LeastText parts states ∷ items) = ⊥
ArePlain (Whole device vars most ∷ items) = ⊥

plain_both : (xs ys : List Item) → ArePlain xs → ArePlain ys → ArePlain (xs ++ ys)
plain_both [] ys h k = k
plain_both (Plain bytes ∷ xs) ys h k = plain_both xs ys h k
plain_both (Projected parts states ∷ xs) ys h k = absurd h
plain_both (LeastText parts states ∷ xs) ys h k = absurd h
plain_both (Whole device vars most ∷ xs) ys h k = absurd h

-- such items are spelled by one text
one_spelling : (items : List Item) (a b : List ℕ) → ArePlain items → Spells items a → Spells items b → a ≡ b
one_spelling [] a b h one other = one ∙ sym other
one_spelling (Plain bytes ∷ items) a b h one other = grind (arith, one_spelling items one.1 other.1 h one.4 other.4)
one_spelling (Projected parts states ∷ items) a b h one other = absurd h
one_spelling (LeastText parts states ∷ items) a b h one other = absurd h
one_spelling (Whole device vars most ∷ items) a b h one other = absurd h

-- ---- every reply but a graph is a text

abbrev items_of : List Move → List Item
items_of moves = flat_map (λ (move : Move). move.items) moves

lists-plain : (entry : Entry) (next : Option (List Bool) → Found) → ((point : Option (List Bool)) → ArePlain ((next point).item ∷ []))
    → (n : ℕ) (point : Option (List Bool)) → ArePlain (items_of (map (λ (f : Found). record { change = Becomes (record entry { point = f.point }); items = f.item ∷ [] }) (listing next n point)))
lists-plain entry next h zero point = tt
lists-plain entry next h (suc n) point = grind (arith, lists-plain entry next h n)

lines-plain : (lines : List (List (List ℕ))) → ArePlain (map line lines)
lines-plain [] = tt
lines-plain (words ∷ lines) = lines-plain lines

-- ---- a graph is one too

text-plain : (known : Case) (text : Option (Case → List ℕ)) (open_item : Item) → is_some text ≡ true → ArePlain (option_map_or (λ (text : Case → List ℕ). Plain (text known)) text open_item ∷ [])
text-plain known (Some text) open_item some = tt
text-plain known None open_item some = absurd (let never : ⊥ = cc in never)

module _ (system : System) (offered : IsOffered system) where
  dnnf-plain : (known : Case) → system.graphs ≡ true → ArePlain (dnnf_item system known ∷ [])
  dnnf-plain known drawn = text-plain known system.texts.dnnf _ (offered.has_dnnf drawn)

  least-plain : (known : Case) → system.extras.least ≡ true → ArePlain (least_item system known ∷ [])
  least-plain known drawn = text-plain known system.texts.least _ (offered.has_least drawn)

  outcome-plain : (s : Name) (full : Bool) (entry : Option Entry) (request : Request) → ArePlain (items_of (outcome system s full entry request))
  outcome-plain s full entry request = grind (arith, append-nil, lines-plain, lists-plain, dnnf-plain, least-plain)

  moves-plain : (limit : ℕ) (table : Table) (l : Line) → ArePlain (said (moves system limit table l))
  moves-plain limit table Blank = tt
  moves-plain limit table (Refused refusal) = tt
  moves-plain limit table (Ask s request) =
      let ms = outcome system s (nat_le limit (length table)) (entry_of s table) request in
      subst ArePlain (sym (moves-said s ms table)) (outcome-plain s (nat_le limit (length table)) (entry_of s table) request)

-- all answers of a service to a script
pub script-plain : (shown : Shown) → IsOffered shown.system → (table : Table) (lines : List (List ℕ)) → ArePlain (said (script_moves (moves_of shown) table lines))
script-plain shown offered table [] = tt
script-plain shown offered table (l ∷ lines) =
    let first = moves_of shown table l in
    let rest = script_moves (moves_of shown) (left_by table first) lines in
    grind (arith, said-append, plain_both, moves-plain shown.system offered, script-plain shown offered (left_by table first) lines)

-- so bytes and table are the same, whenever the script is answered
pub one_text : (shown : Shown) → IsOffered shown.system → (old new other : Table) (lines : List (List ℕ)) (bytes : List ℕ) (a b : Option (List ℕ))
    → Makes old new (script_moves (moves_of shown) old lines) (Some bytes) a → Makes old other (script_moves (moves_of shown) old lines) (Some bytes) b
    → (a ≡ b) × (new ≡ other)
one_text shown offered old new other lines bytes a b one again = grind (arith, one_spelling, script-plain shown offered)
