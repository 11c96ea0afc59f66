-- What the loops and sorts that build a device keep.
use Rattle.std.proofs.Common.{◌≡◌, ◌≢◌, ℕ, zero, suc, ◌+◌, ◌<◌, inl, inr, List, [], ◌∷◌, ◌++◌, map, length, get_or, set, Some, Err, slice_index, add-one, refl, sym, ap, subst, ◌∙◌, arith}
use Rattle.std.specs.List.{All, AllPairs}
use Rattle.std.specs.List.Sorted.{IsPermutation}
use Rattle.std.proofs.lemmas.List.{get_or_default, get_or-set_same, get_or-set_other}
use Rattle.std.proofs.lemmas.Bool.{cases_eq}
use Rattle.std.proofs.lemmas.List.Sorted.{IsPermutation-sym}
use Rattle.text_rules.specs.Names.{Name}
use Rattle.device_model.specs.declared.building.BuildError.{BuildError}
use Rattle.device_model.specs.Order.{sorted_distinct}
use Rattle.device_model.specs.Building.{repeated}
use Rattle.device_model.specs.inner.Sorting.{numbered_from, NeighboursDiffer, IsFirstRepeat, IsTwice}
use Rattle.device_model.proofs.Ordered.{Rises, sorted_distinct-is}
use Rattle.device_model.proofs.SortedLists.{itself, Ascends, among_permutation}
use Rattle.device_model.proofs.Repeats.{first_repeat_is_least, unless_name-repeated, Rises-from_neighbours, repeated-rising}

pub numbered_from-push : (p : ℕ) (ns : List Name) (n : Name) → numbered_from p (ns ++ n ∷ []) ≡ numbered_from p ns ++ (n, p + length ns) ∷ []
numbered_from-push p [] n = ap (λ (q : ℕ). (n, q) ∷ []) (omega arith)
numbered_from-push p (m ∷ ms) n = grind (arith, numbered_from-push (p + 1) ms n)

pub map-numbered_from : (p : ℕ) (ns : List Name) → map (λ (w : Name × ℕ). w.0) (numbered_from p ns) ≡ ns
map-numbered_from p [] = refl
map-numbered_from p (n ∷ ns) = ap (λ (ms : List Name). n ∷ ms) (map-numbered_from (p + 1) ns)

-- a sort of names, if neighbours differ and if not
module _ (ns ms : List Name) (moved : IsPermutation ns ms) (up : Ascends ms) where
  pub Rises-sorted : NeighboursDiffer ms (length ms) → Rises itself ms
  Rises-sorted h = Rises-from_neighbours ms up (λ k l e. h k (omega arith) (subst (λ (j : ℕ). get_or ms k [] ≡ get_or ms j []) (sym (add-one k)) e))

  pub repeated-sorted : NeighboursDiffer ms (length ms) → repeated ns ≡ []
  repeated-sorted h = repeated-rising ns ms moved (Rises-sorted h)

  pub IsTwice-sorted : (error : Name → BuildError) (place : ℕ) → IsFirstRepeat ms (Some place) → IsTwice error ns (error (get_or ms place []))
  IsTwice-sorted error zero h = absurd (omega (arith, h.0))
  IsTwice-sorted error (suc i) h =
      let e : get_or ms i [] ≡ get_or ms (suc i) [] = h.3 i (omega arith) in
      let least = first_repeat_is_least ms i up (omega (arith, h.1)) e (λ k l g. h.2 k (omega arith) (subst (λ (j : ℕ). get_or ms k [] ≡ get_or ms j []) (sym (add-one k)) g)) in
      λ otherwise. unless_name-repeated ns ms i moved least error otherwise ∙ ap (λ (n : Name). Err (error n)) e

pub sorted_distinct-sorted : {A : Type 0} (name : A → Name) (xs ys : List A) → IsPermutation xs ys → Rises name ys → ys ≡ sorted_distinct name xs
sorted_distinct-sorted name xs ys moved h =
    sym (sorted_distinct-is name xs ys h (λ z. among_permutation xs ys moved z) (λ z. among_permutation ys xs (IsPermutation-sym xs ys moved) z))

-- one more place in the table of places
pub places_more : (places : List ℕ) (wires : List (Name × ℕ)) (i : ℕ) (v : Name × ℕ) → i < length wires → v ≡ get_or wires i v → length places ≡ length wires
    → All (λ w. w.1 < length wires) wires → AllPairs (λ v w. v.1 ≢ w.1) wires
    → ((k : ℕ) (w : Name × ℕ) → k < i → slice_index places (get_or wires k w).1 ≡ k)
    → (k : ℕ) (w : Name × ℕ) → k < i + 1 → slice_index (set places v.1 i) (get_or wires k w).1 ≡ k
places_more places wires i v within is same_length below distinct before k w l = elim (cases_eq k i) [
  | inl e ↦ grind (arith, get_or_default, get_or-set_same)
  | inr n ↦ grind (arith, distinct k i w, get_or_default, get_or-set_other, before k w)
]
