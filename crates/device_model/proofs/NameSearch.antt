-- The result of a binary search by name among items whose names rise.
use Rattle.std.proofs.Common.{◌≡◌, ℕ, ◌<◌, false, List, [], ◌∷◌, map, length, get_or, Some, None, Result, Ok, Err, refl, sym, arith}
use Rattle.std.specs.Ordering.{nat_cmp, ordering_index}
use Rattle.std.specs.Result.{result_ok}
use Rattle.std.specs.declared.cmp.Ordering.{Ordering}
use Rattle.std.specs.Cmp.Lexicographic.{slice_cmp}
use Rattle.std.specs.List.{position_or_len}
use Rattle.std.specs.List.Sorted.{IsNonDecreasingBy, IsSearchInRange, IsBinarySearchResult}
use Rattle.std.proofs.lemmas.Bool.{le-ltb, cases_lt}
use Rattle.std.proofs.lemmas.Cmp.{nat_list_cmp_total}
use Rattle.std.proofs.lemmas.List.{length-map, get_or-map}
use Rattle.std.proofs.lemmas.List.Sums.{position_or_len_is}
use Rattle.text_rules.specs.Names.{Name, same_name}
use Rattle.device_model.specs.Devices.{place_of}
use Rattle.device_model.proofs.NameOrder.{same_if_tied, above_if_greater, same_name-below, same_name-above}
use Rattle.device_model.proofs.Ordered.{Rises}
use Rattle.device_model.proofs.SortedLists.{itself, Rises-map}
use Rattle.device_model.proofs.WirePlaces.{Rises-get_or, place_in-rising}

place_there : (ns : List Name) (place : ℕ) (wanted : Name) → Rises itself ns → place < length ns → get_or ns place [] ≡ wanted → place_of wanted ns ≡ Some place
place_there ns place wanted up l e = grind (arith, place_in-rising)

no_place : (ns : List Name) (wanted : Name) → ((k : ℕ) → k < length ns → same_name wanted (get_or ns k []) ≡ false) → place_of wanted ns ≡ None
no_place ns wanted other =
    let past : position_or_len (same_name wanted) ns ≡ length ns = position_or_len_is (same_name wanted) ns (length ns) [] (omega arith) other (λ l. absurd (omega arith)) in
    rw (past, le-ltb (length ns) (length ns) (omega arith)) refl

module _ {A : Type 0} (name : A → Name) where
  abbrev pub order : Name → A → Ordering
  order wanted x = slice_cmp nat_cmp (name x) wanted

  searchable : (xs : List A) (wanted : Name) → Rises name xs → IsNonDecreasingBy (λ x. ordering_index (order wanted x)) xs
  searchable xs wanted up = grind (arith, nat_list_cmp_total, Rises-get_or)

  pub looked_up : (xs : List A) (wanted : Name) (r : Result ℕ ℕ) → Rises name xs → IsSearchInRange r (length xs) → IsBinarySearchResult (order wanted) xs r
      → result_ok r ≡ place_of wanted (map name xs)
  looked_up [] wanted (Ok place) up l tied = absurd (omega (arith, l))
  looked_up [] wanted (Err place) up l parted = refl
  looked_up (x ∷ xs) wanted (Ok place) up l tied =
      sym (place_there (map name (x ∷ xs)) place wanted (Rises-map name (x ∷ xs) up) (grind (arith, length-map)) (grind (arith, get_or-map, same_if_tied, tied x)))
  looked_up (x ∷ xs) wanted (Err place) up l parted = sym (no_place (map name (x ∷ xs)) wanted other)
    where
      other : (k : ℕ) → k < length (map name (x ∷ xs)) → same_name wanted (get_or (map name (x ∷ xs)) k []) ≡ false
      other k h =
          let said = parted (searchable (x ∷ xs) wanted up) in
          grind (arith, length-map, get_or-map, cases_lt k place, said.0 k x, said.1 k x, above_if_greater, same_name-above, same_name-below)
