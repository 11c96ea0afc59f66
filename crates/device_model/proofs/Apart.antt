-- Lists of different names.
use Rattle.std.proofs.Common.{◌≡◌, inl, inr, Bool, false, List, [], ◌∷◌, ◌++◌, map, refl, ap, ◌∙◌, arith}
use Rattle.std.specs.Prelude.{if◌then◌else◌}
use Rattle.text_rules.specs.Names.{Name, is_among}
use Rattle.state_rules.proofs.Members.{In, In-append, from_map}
use Rattle.device_model.specs.Building.{repeated}
use Rattle.device_model.proofs.NameOrder.{Below-irreflexive}
use Rattle.device_model.proofs.Ordered.{Rises, Below-among}
use Rattle.device_model.proofs.SortedLists.{itself}
use Rattle.device_model.proofs.Repeats.{among_from_test}

abbrev pub Different : List Name → Type 0
Different [] = Unit {0}
Different (n ∷ ns) = (In n ns → ⊥) × Different ns

not_among : (n : Name) (ns : List Name) → (In n ns → ⊥) → is_among ns n ≡ false
not_among n ns h = grind (arith, among_from_test)

pub repeated-Different : (ns : List Name) → Different ns → repeated ns ≡ []
repeated-Different [] h = refl
repeated-Different (n ∷ ns) h = ap (λ (b : Bool). if b then n ∷ repeated ns else repeated ns) (not_among n ns h.0) ∙ repeated-Different ns h.1

pub Different-rising : (ns : List Name) → Rises itself ns → Different ns
Different-rising [] h = tt
Different-rising (n ∷ ns) h = ((λ m. Below-irreflexive n (Below-among itself n ns n h.0 m)), Different-rising ns h.1)

pub Different-append : (xs ys : List Name) → Different xs → Different ys → ((n : Name) → In n xs → In n ys → ⊥) → Different (xs ++ ys)
Different-append [] ys h g apart = g
Different-append (x ∷ xs) ys h g apart = ((λ m. elim (In-append x xs ys m) [ inl a ↦ h.0 a | inr a ↦ apart x (inl refl) a ]), Different-append xs ys h.1 g (λ n a b. apart n (inr a) b))

pub Different-right : (xs ys : List Name) → Different (xs ++ ys) → Different ys
Different-right [] ys h = h
Different-right (x ∷ xs) ys h = Different-right xs ys h.1

-- an injective map keeps names different
pub Different-made : (make : Name → Name) → ((m n : Name) → make m ≡ make n → m ≡ n) → (ns : List Name) → Different ns → Different (map make ns)
Different-made make tells [] h = tt
Different-made make tells (n ∷ ns) h = ((λ m. let r = from_map make (make n) ns m in grind (arith, tells n r.item)), Different-made make tells ns h.1)
