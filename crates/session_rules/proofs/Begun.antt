-- Beginnings of texts.
use Rattle.std.proofs.Common.{ℕ, List, [], ◌∷◌, ◌++◌, map, Option, refl, append_assoc, arith}
use Rattle.diag_edge.proofs.GrownBytes.{grows_more}
use Rattle.session_rules.specs.Items.{Item, line}
use Rattle.session_rules.specs.Spelling.{Spelled, Spells, Writes, WritesPart}
use Rattle.session_rules.proofs.Spellings.{spells_more}

-- some text spells each of the items
abbrev pub HaveSpellings : List Item → Type 0
HaveSpellings [] = Unit {0}
HaveSpellings (item ∷ items) = ((text : List ℕ) × Spelled item text) × HaveSpellings items

-- if so, some text spells them together
pub spelling : (items : List Item) → HaveSpellings items → (text : List ℕ) × Spells items text
spelling [] h = ([], refl)
spelling (item ∷ items) h = let more = spelling items h.1 in (h.0.0 ++ more.0, (h.0.0, more.0, refl, h.0.1, more.1))

pub have_after : (xs ys : List Item) → HaveSpellings (xs ++ ys) → HaveSpellings ys
have_after [] ys h = h
have_after (x ∷ xs) ys h = have_after xs ys h.1

pub have_both : (xs ys : List Item) → HaveSpellings xs → HaveSpellings ys → HaveSpellings (xs ++ ys)
have_both [] ys h k = k
have_both (x ∷ xs) ys h k = (h.0, have_both xs ys h.1 k)

-- each line is spelled by its text
pub lines-have : (lines : List (List (List ℕ))) → HaveSpellings (map line lines)
lines-have [] = tt
lines-have (words ∷ lines) = ((_, refl), lines-have lines)

-- the beginning of some items begins more items
pub part_more : (a b : Option (List ℕ)) (xs ys : List Item) → WritesPart a b xs → HaveSpellings ys → WritesPart a b (xs ++ ys)
part_more a b xs ys part h = grind (arith, spelling, append_assoc, spells_more)

-- so does the beginning of later ones, after a text that spells the first
pub part_after : (a b c : Option (List ℕ)) (xs ys : List Item) → Writes a b xs → WritesPart b c ys → WritesPart a c (xs ++ ys)
part_after a b c xs ys first part = grind (arith, append_assoc, spells_more, grows_more a b c first.text part.text first.grown part.grown)
