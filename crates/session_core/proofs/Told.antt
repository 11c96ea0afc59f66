-- Items written one after the other.
use Rattle.std.proofs.Common.{◌≡◌, ℕ, List, [], ◌∷◌, ◌++◌, map, Option, Result, Ok, Err, IsErr, append_assoc, arith}
use Rattle.std.proofs.lemmas.List.{map-append}
use Rattle.std.specs.Io.KnownBytes.{Appends}
use Rattle.diag_edge.specs.Edge.{AppendsPrefix}
use Rattle.session_rules.specs.Items.{Item, line}
use Rattle.session_rules.specs.Spelling.{Spelled, Writes, WritesPart, Replies}
use Rattle.session_rules.proofs.Spellings.{spells_one, writes_more}
use Rattle.session_rules.proofs.Begun.{HaveSpellings, lines-have, part_more, part_after}
use Rattle.session_core.specs.inner.Telling.{Said}

-- items, then others
pub replies_then : {T E : Type 0} (a b c : Option (List ℕ)) (r : Result T E) (xs ys : List Item) → Writes a b xs → Replies b c r ys → Replies a c r (xs ++ ys)
replies_then a b c (Ok v) xs ys first second = writes_more a b c xs ys first second
replies_then a b c (Err e) xs ys first second = part_after a b c xs ys first second

-- items whose first ones failed
pub replies_broken : {T E : Type 0} (a b : Option (List ℕ)) (r : Result T E) (xs ys : List Item) → IsErr r → WritesPart a b xs → HaveSpellings ys → Replies a b r (xs ++ ys)
replies_broken a b r xs ys failed part have = grind (arith, part_more)

-- lines, then one more
pub lines_then : {T E : Type 0} (a b c : Option (List ℕ)) (r : Result T E) (xs : List (List (List ℕ))) (l : List (List ℕ)) → Writes a b (map line xs) → Replies b c r (line l ∷ []) → Replies a c r (map line (xs ++ l ∷ []))
lines_then a b c r xs l first second = grind (arith, map-append line xs (l ∷ []), replies_then a b c r (map line xs) (line l ∷ []) first second)

-- lines whose first ones failed
pub lines_broken : {T E : Type 0} (a b : Option (List ℕ)) (r : Result T E) (xs : List (List (List ℕ))) (l : List (List ℕ)) → IsErr r → WritesPart a b (map line xs) → Replies a b r (map line (xs ++ l ∷ []))
lines_broken a b r xs l failed part = grind (arith, map-append, replies_broken)

-- more of them were written
pub said_more : (a b c : Option (List ℕ)) (xs left all rest : List (List (List ℕ))) → rest ≡ xs ++ left → Said a b rest all → Writes b c (map line xs) → Said a c left all
said_more a b c xs left all rest next said more = grind (arith, map-append line said.done xs, writes_more a b c (map line said.done) (map line xs) said.written more, append_assoc said.done xs left)

-- a put failed with the next ones
pub said_part : {T E : Type 0} (a b c : Option (List ℕ)) (r : Result T E) (xs left all rest : List (List (List ℕ))) → IsErr r → rest ≡ xs ++ left → Said a b rest all → WritesPart b c (map line xs) → Replies a c r (map line all)
said_part a b c (Ok v) xs left all rest failed next said part = absurd (let no : ⊥ = cc in no)
said_part a b c (Err e) xs left all rest failed next said part = grind (arith, map-append line xs left, map-append line said.done (xs ++ left), part_more b c (map line xs) (map line left) part (lines-have left), part_after a b c (map line said.done) (map line (xs ++ left)) said.written)

-- one item was written, or begun
pub writes_one : (a b : Option (List ℕ)) (item : Item) (text : List ℕ) → Spelled item text → Appends a b text → Writes a b (item ∷ [])
writes_one a b item text is put = record { text = text; spelled = spells_one item text is; grown = put }

pub part_one : (a b : Option (List ℕ)) (item : Item) (text : List ℕ) → Spelled item text → AppendsPrefix a b text → WritesPart a b (item ∷ [])
part_one a b item text is (part, rest, all, grown) = grind (arith, spells_one)
