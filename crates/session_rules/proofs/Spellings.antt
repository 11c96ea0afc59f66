-- How a text spells items.
use Rattle.std.proofs.Common.{ℕ, List, [], ◌∷◌, ◌++◌, Option, Result, Ok, Err, refl, sym, subst, append_assoc, append-nil, arith}
use Rattle.diag_edge.specs.Edge.{Puts}
use Rattle.diag_edge.proofs.GrownBytes.{grows_more, grows_none}
use Rattle.session_rules.specs.Items.{Item}
use Rattle.session_rules.specs.Spelling.{Spelled, Spells, Writes, Replies}

pub spells_one : (item : Item) (text : List ℕ) → Spelled item text → Spells (item ∷ []) text
spells_one item text is = (text, [], sym (append-nil text), is, refl)

pub spells_more : (xs ys : List Item) (a b : List ℕ) → Spells xs a → Spells ys b → Spells (xs ++ ys) (a ++ b)
spells_more [] ys a b h k = subst (λ c. Spells ys (c ++ b)) (sym h) k
spells_more (x ∷ xs) ys a b (front, rest, all, is, more) k = grind (arith, append_assoc, spells_more xs ys rest b more k)

pub writes_none : (a : Option (List ℕ)) → Writes a a []
writes_none a = record { text = []; spelled = refl; grown = grows_none a }

pub writes_more : (a b c : Option (List ℕ)) (xs ys : List Item) → Writes a b xs → Writes b c ys → Writes a c (xs ++ ys)
writes_more a b c xs ys first second = grind (arith, spells_more, grows_more)

-- one item was written
pub replies_one : {T E : Type 0} (a b : Option (List ℕ)) (r : Result T E) (item : Item) (text : List ℕ) → Spelled item text → Puts a b r text → Replies a b r (item ∷ [])
replies_one a b (Ok v) item text is put = record { text = text; spelled = spells_one item text is; grown = put }
replies_one a b (Err e) item text is (part, rest, all, grown) = grind (arith, spells_one)
