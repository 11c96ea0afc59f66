-- Lists of items by rising name: `sorted_distinct` makes the only one with the same items.
use Rattle.std.proofs.Common.{◌≡◌, ◌⊎◌, inl, inr, List, [], ◌∷◌, refl, sym, subst, arith}
use Rattle.text_rules.specs.Names.{Name}
use Rattle.text_rules.proofs.NameLemmas.{same_if_equal}
use Rattle.state_rules.proofs.Members.{In}
use Rattle.device_model.specs.Order.{placed, sorted_distinct}
use Rattle.device_model.proofs.NameOrder.{Below, Below-trans, Below-irreflexive, Below-asymmetric, same, below, above, compared, same_name-below, same_name-above, name_below-Below, name_below-above}

module _ {A : Type 0} (name : A → Name) where
  -- the name is before each item's
  abbrev pub BelowAll : Name → List A → Type 0
  BelowAll n [] = Unit {0}
  BelowAll n (y ∷ ys) = Below n (name y) × BelowAll n ys

  -- each item's name is before those of all later items
  abbrev pub Rises : List A → Type 0
  Rises [] = Unit {0}
  Rises (x ∷ xs) = BelowAll (name x) xs × Rises xs

  pub Below-among : (n : Name) (ys : List A) (y : A) → BelowAll n ys → In y ys → Below n (name y)
  Below-among n [] y h m = absurd m
  Below-among n (x ∷ xs) y h m = grind (arith, Below-among n xs y h.1)

  pub BelowAll-trans : (m n : Name) (ys : List A) → Below m n → BelowAll n ys → BelowAll m ys
  BelowAll-trans m n [] b h = tt
  BelowAll-trans m n (y ∷ ys) b h = (Below-trans m n (name y) b h.0, BelowAll-trans m n ys b h.1)

  pub placed-same : (x y : A) (ys : List A) → name x ≡ name y → placed name x (y ∷ ys) ≡ y ∷ ys
  placed-same x y ys e = rw (same_if_equal (name x) (name y) e) refl

  pub placed-below : (x y : A) (ys : List A) → Below (name x) (name y) → placed name x (y ∷ ys) ≡ x ∷ y ∷ ys
  placed-below x y ys h = rw (same_name-below (name x) (name y) h, name_below-Below (name x) (name y) h) refl

  pub placed-above : (x y : A) (ys : List A) → Below (name y) (name x) → placed name x (y ∷ ys) ≡ y ∷ placed name x ys
  placed-above x y ys h = rw (same_name-above (name x) (name y) h, name_below-above (name x) (name y) h) refl

  BelowAll-placed : (n : Name) (x : A) (ys : List A) → Below n (name x) → BelowAll n ys → BelowAll n (placed name x ys)
  BelowAll-placed n x [] b h = (b, tt)
  BelowAll-placed n x (y ∷ ys) b h = grind (arith, BelowAll-placed n x ys b h.1)

  Rises-placed : (x : A) (ys : List A) → Rises ys → Rises (placed name x ys)
  Rises-placed x [] h = (tt, tt)
  Rises-placed x (y ∷ ys) h = grind (arith, compared, placed-same, BelowAll-trans, BelowAll-placed, Rises-placed x ys h.1)

  pub Rises-sorted_distinct : (xs : List A) → Rises (sorted_distinct name xs)
  Rises-sorted_distinct [] = tt
  Rises-sorted_distinct (x ∷ xs) = Rises-placed x (sorted_distinct name xs) (Rises-sorted_distinct xs)

  among_placed : (x : A) (ys : List A) (z : A) → In z (placed name x ys) → (z ≡ x) ⊎ In z ys
  among_placed x [] z m = m
  among_placed x (y ∷ ys) z m = grind (arith, among_placed x ys z)

  placed-keeps : (x : A) (ys : List A) (z : A) → In z ys → In z (placed name x ys)
  placed-keeps x [] z m = absurd m
  placed-keeps x (y ∷ ys) z m = grind (arith, placed-keeps x ys z)

  -- an item of the list with the name
  abbrev Named : Name → List A → Type 0
  Named n ys = (z : A) × In z ys × (name z ≡ n)

  placed-has : (x : A) (ys : List A) → Named (name x) (placed name x ys)
  placed-has x [] = (x, inl refl, refl)
  placed-has x (y ∷ ys) = elim (compared (name x) (name y)) [
    | same e ↦ subst (Named (name x)) (sym (placed-same x y ys e)) (y, inl refl, sym e)
    | below l ↦ subst (Named (name x)) (sym (placed-below x y ys l)) (x, inl refl, refl)
    | above l ↦ subst (Named (name x)) (sym (placed-above x y ys l)) (let r = placed-has x ys in (r.0, inr r.1, r.2))
  ]

  -- each item of the result is in the list
  pub among_sorted_distinct : (xs : List A) (z : A) → In z (sorted_distinct name xs) → In z xs
  among_sorted_distinct [] z m = m
  among_sorted_distinct (x ∷ xs) z m = elim (among_placed x (sorted_distinct name xs) z m) [ inl e ↦ inl e | inr n ↦ inr (among_sorted_distinct xs z n) ]

  -- and each name of the list is in the result
  pub sorted_distinct-has : (xs : List A) (x : A) → In x xs → Named (name x) (sorted_distinct name xs)
  sorted_distinct-has [] x m = absurd m
  sorted_distinct-has (y ∷ ys) x (inl e) = subst (λ (z : A). Named (name z) (sorted_distinct name (y ∷ ys))) (sym e) (placed-has y (sorted_distinct name ys))
  sorted_distinct-has (y ∷ ys) x (inr m) = let r = sorted_distinct-has ys x m in (r.0, placed-keeps y (sorted_distinct name ys) r.0 r.1, r.2)

  -- items of one name are the same
  abbrev pub NamesTell : List A → Type 0
  NamesTell xs = (x y : A) → In x xs → In y xs → name x ≡ name y → x ≡ y

  pub sorted_distinct-keeps : (xs : List A) → NamesTell xs → (x : A) → In x xs → In x (sorted_distinct name xs)
  sorted_distinct-keeps xs tell x m = grind (arith, sorted_distinct-has, among_sorted_distinct)

  pub NamesTell-rising : (ys : List A) → Rises ys → NamesTell ys
  NamesTell-rising [] r x y m n e = absurd m
  NamesTell-rising (z ∷ zs) r x y m n e = grind (arith, Below-among (name z) zs x r.0, Below-among (name z) zs y r.0, Below-irreflexive, NamesTell-rising zs r.1 x y)

  abbrev pub Within : List A → List A → Type 0
  Within xs ys = (z : A) → In z xs → In z ys

  -- two rising lists of the same items have equal heads
  same_heads : (x : A) (xs : List A) (y : A) (ys : List A) → Rises (x ∷ xs) → Rises (y ∷ ys) → Within (x ∷ xs) (y ∷ ys) → Within (y ∷ ys) (x ∷ xs) → x ≡ y
  same_heads x xs y ys r s to back = grind (arith, to x, back y, Below-asymmetric, Below-among)

  tail_within : (x : A) (xs : List A) (y : A) (ys : List A) → Rises (x ∷ xs) → x ≡ y → Within (x ∷ xs) (y ∷ ys) → Within xs ys
  tail_within x xs y ys r e to z m = grind (arith, Below-irreflexive, Below-among)

  pub Rises-unique : (xs ys : List A) → Rises xs → Rises ys → Within xs ys → Within ys xs → xs ≡ ys
  Rises-unique [] [] r s to back = refl
  Rises-unique [] (y ∷ ys) r s to back = absurd (back y (inl refl))
  Rises-unique (x ∷ xs) [] r s to back = absurd (to x (inl refl))
  Rises-unique (x ∷ xs) (y ∷ ys) r s to back = grind (arith, same_heads, tail_within, Rises-unique xs ys r.1 s.1)

  -- a rising list of the same items is `sorted_distinct` of them
  pub sorted_distinct-is : (xs ys : List A) → Rises ys → Within xs ys → Within ys xs → sorted_distinct name xs ≡ ys
  sorted_distinct-is xs ys r to back = grind (arith, NamesTell-rising, Rises-unique, Rises-sorted_distinct, among_sorted_distinct, sorted_distinct-keeps)
