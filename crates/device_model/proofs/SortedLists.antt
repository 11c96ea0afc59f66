-- Lists sorted by name: neighbours, and what permutations keep.
use Rattle.std.proofs.Common.{◌≡◌, ℕ, suc, ◌+◌, ◌<◌, ◌≤◌, ◌⊎◌, inl, inr, true, false, List, [], ◌∷◌, map, length, get_or, Contains, add-one, refl, sym, subst, arith}
use Rattle.std.specs.List.Sorted.{IsPermutation}
use Rattle.std.proofs.lemmas.List.Sorted.{Contains-permutation}
use Rattle.text_rules.specs.Names.{Name, name_below, names_rise}
use Rattle.state_rules.proofs.Members.{In, In-at}
use Rattle.device_model.proofs.NameOrder.{Below, Below-trans, compared, name_below-Below}
use Rattle.device_model.proofs.Ordered.{BelowAll, BelowAll-trans, Rises}

pub Contains-from_among : {A : Type 0} (xs : List A) (x : A) → In x xs → Contains xs x
Contains-from_among [] x m = absurd m
Contains-from_among (y ∷ ys) x (inl e) = (0, omega arith, sym e)
Contains-from_among (y ∷ ys) x (inr m) = let r = Contains-from_among ys x m in (suc r.0, omega (arith, r.1), r.2)

pub among_from_Contains : {A : Type 0} (xs : List A) (x : A) → Contains xs x → In x xs
among_from_Contains xs x h = subst (λ y. In y xs) h.2 (In-at xs h.0 x h.1)

pub among_permutation : {A : Type 0} (xs ys : List A) → IsPermutation xs ys → (x : A) → In x xs → In x ys
among_permutation xs ys h x m = among_from_Contains ys x (Contains-permutation xs ys x h (Contains-from_among xs x m))

-- a name is before another or equal to it
abbrev pub AtMost : Name → Name → Type 0
AtMost a b = (a ≡ b) ⊎ Below a b

pub AtMost-trans : (a b c : Name) → AtMost a b → AtMost b c → AtMost a c
AtMost-trans a b c given h = grind (arith, Below-trans)

pub AtMost-from_test : (a b : Name) → name_below b a ≡ false → AtMost a b
AtMost-from_test a b h = grind (arith, compared)

abbrev pub AtMostAll : Name → List Name → Type 0
AtMostAll n [] = Unit {0}
AtMostAll n (m ∷ ms) = AtMost n m × AtMostAll n ms

-- no name is before an earlier one
abbrev pub Ascends : List Name → Type 0
Ascends [] = Unit {0}
Ascends (n ∷ ns) = AtMostAll n ns × Ascends ns

pub AtMost-among : (n : Name) (ms : List Name) (m : Name) → AtMostAll n ms → In m ms → AtMost n m
AtMost-among n [] m h is_in = absurd is_in
AtMost-among n (k ∷ ms) m h is_in = grind (arith, AtMost-among n ms m h.1)

AtMostAll-trans : (m n : Name) (ns : List Name) → AtMost m n → AtMostAll n ns → AtMostAll m ns
AtMostAll-trans m n [] b h = tt
AtMostAll-trans m n (k ∷ ns) b h = (AtMost-trans m n k b h.0, AtMostAll-trans m n ns b h.1)

module _ {A : Type 0} (name : A → Name) where
  Ascends-from_neighbours : (xs : List A) → ((k : ℕ) (d : A) → suc k < length xs → AtMost (name (get_or xs k d)) (name (get_or xs (suc k) d))) → Ascends (map name xs)
  Ascends-from_neighbours [] h = tt
  Ascends-from_neighbours (x ∷ []) h = (tt, tt)
  Ascends-from_neighbours (x ∷ y ∷ ys) h =
      let rest : Ascends (map name (y ∷ ys)) = Ascends-from_neighbours (y ∷ ys) (λ k d l. h (suc k) d (omega arith)) in
      ((h 0 x (omega arith), AtMostAll-trans (name x) (name y) (map name ys) (h 0 x (omega arith)) rest.0), rest)

  pub Ascends-from_sort : (xs : List A) → ((k : ℕ) (d : A) → 0 ≤ k → k + 1 < length xs → name_below (name (get_or xs (k + 1) d)) (name (get_or xs k d)) ≡ false) → Ascends (map name xs)
  Ascends-from_sort xs h = Ascends-from_neighbours xs (λ k d l. AtMost-from_test (name (get_or xs k d)) (name (get_or xs (suc k) d)) (rw (← add-one k) (h k d (omega arith) (omega arith))))

abbrev pub itself : Name → Name
itself n = n

module _ {A : Type 0} (name : A → Name) where
  BelowAll-map : (n : Name) (xs : List A) → BelowAll name n xs → BelowAll itself n (map name xs)
  BelowAll-map n [] h = tt
  BelowAll-map n (x ∷ xs) h = (h.0, BelowAll-map n xs h.1)

  pub Rises-map : (xs : List A) → Rises name xs → Rises itself (map name xs)
  Rises-map [] h = tt
  Rises-map (x ∷ xs) h = (BelowAll-map (name x) xs h.0, Rises-map xs h.1)

  BelowAll-unmap : (n : Name) (xs : List A) → BelowAll itself n (map name xs) → BelowAll name n xs
  BelowAll-unmap n [] h = tt
  BelowAll-unmap n (x ∷ xs) h = (h.0, BelowAll-unmap n xs h.1)

  pub Rises-unmap : (xs : List A) → Rises itself (map name xs) → Rises name xs
  Rises-unmap [] h = tt
  Rises-unmap (x ∷ xs) h = (BelowAll-unmap (name x) xs h.0, Rises-unmap xs h.1)

-- the test of `names_rise` and the fact
pub names_rise-Rises : (ns : List Name) → Rises itself ns → names_rise ns ≡ true
names_rise-Rises [] h = refl
names_rise-Rises (a ∷ []) h = refl
names_rise-Rises (a ∷ b ∷ ns) h = rw (name_below-Below a b h.0.0) (names_rise-Rises (b ∷ ns) h.1)

pub Rises-from_names_rise : (ns : List Name) → names_rise ns ≡ true → Rises itself ns
Rises-from_names_rise [] h = tt
Rises-from_names_rise (a ∷ []) h = (tt, tt)
Rises-from_names_rise (a ∷ b ∷ ns) h = grind (arith, BelowAll-trans, Rises-from_names_rise (b ∷ ns))
