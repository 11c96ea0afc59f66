-- Different lists in turn.
use Rattle.std.proofs.Common.{◌≡◌, ℕ, ◌+◌, ◌<◌, Bool, true, false, not, cond, List, [], ◌∷◌, ◌++◌, map, length, take, drop, Some, None, refl, ap, sym, ◌∙◌, arith}
use Rattle.std.specs.Prelude.{Option, option_to_list, slice_get}
use Rattle.std.specs.List.{flat_map, position_or_len}
use Rattle.std.proofs.lemmas.List.{append_assoc, append-nil, take-append-drop, get_or-map, length-map, take_more, map-append}
use Rattle.std.proofs.lemmas.List.Concat.{flat_map-append}
use Rattle.std.proofs.lemmas.List.Folds.{list_any-append}
use Rattle.std.proofs.lemmas.Option.{slice_get_within, get_or_from_slice_get}
use Rattle.state_rules.proofs.Bits.{pointwise-refl}
use Rattle.elimination_forests.specs.Branches.{different}
use Rattle.elimination_forests.proofs.ListCounts.{among-different}
use Rattle.elimination_forests.proofs.Lists.{is_among, different-append}
use Rattle.elimination_forests.proofs.FirstPlaces.{place-front}
use Rattle.forest_states.specs.inner.BitLists.{is_same}
use Rattle.forest_states.specs.inner.Descents.{joined, lead}

-- bits before others, if there are any
abbrev pub behind : List Bool → Option (List Bool) → Option (List Bool)
behind bits None = None
behind bits (Some more) = Some (bits ++ more)

-- ---- one more item

take-more : {X : Type 0} (xs : List X) (k : ℕ) (x : X) → slice_get xs k ≡ Some x → take (k + 1) xs ≡ take k xs ++ x ∷ []
take-more xs k x at = take_more xs k x (slice_get_within xs k x at) ∙ ap (λ y. take k xs ++ y ∷ []) (get_or_from_slice_get xs k x x at)

pub mapped-more : {X Y : Type 0} (h : X → Y) (xs : List X) (ys : List Y) (k : ℕ) (x : X) → slice_get xs k ≡ Some x → ys ≡ take k (map h xs) → ys ++ h x ∷ [] ≡ take (k + 1) (map h xs)
mapped-more h xs ys k x at e =
    let within : k < length (map h xs) = omega (arith, length-map xs h, slice_get_within xs k x at) in
    ap (λ zs. zs ++ h x ∷ []) e
    ∙ ap (λ y. take k (map h xs) ++ y ∷ []) (ap h (sym (get_or_from_slice_get xs k x x at)) ∙ sym (get_or-map h xs k x (h x) (slice_get_within xs k x at)))
    ∙ sym (take_more (map h xs) k (h x) within)

-- one more list
pub joined-more : (ks : List (List Bool)) (more : Option (List Bool)) → joined (different ks) more ≡ different (ks ++ option_to_list more)
joined-more ks None = ap different (sym (append-nil ks))
joined-more ks (Some k) = grind (arith, among-different ks k, different-append ks (k ∷ []), append-nil (different ks))

-- more lists at the end do not change the place of one
pub place-ahead : (ks : List (List Bool)) (k : List Bool) (more : List (List Bool)) → position_or_len (is_same k) (different ks) ≡ position_or_len (is_same k) (different ((ks ++ k ∷ []) ++ more))
place-ahead ks k more = by (is_among ks k) refl ∙ back where
  all : List (List Bool)
  all = ks ++ k ∷ []

  back : position_or_len (is_same k) (different all) ≡ position_or_len (is_same k) (different (all ++ more))
  back = sym (place-front (is_same k) (different all) _ (among-different all k ∙ grind (arith, list_any-append, pointwise-refl k))) ∙ ap (position_or_len (is_same k)) (sym (different-append all more))

  by : (b : Bool) → is_among ks k ≡ b → position_or_len (is_same k) (different ks) ≡ position_or_len (is_same k) (different all)
  by true e = sym (place-front (is_same k) (different ks) _ (among-different ks k ∙ e)) ∙ ap (position_or_len (is_same k)) (sym (different-append ks (k ∷ [])))
  by false e = new (different ks) (among-different ks k ∙ e) ∙ ap (position_or_len (is_same k)) (ap (λ x. different ks ++ cond (not x) (k ∷ []) []) (sym e) ∙ sym (different-append ks (k ∷ []))) where
    new : (ls : List (List Bool)) → is_among ls k ≡ false → position_or_len (is_same k) ls ≡ position_or_len (is_same k) (ls ++ k ∷ [])
    new [] h = ap (λ x. cond (not x) 1 0) (sym (pointwise-refl k))
    new (l ∷ ls) h = grind (arith, new ls)

pub lead-front : (ks : List (List Bool)) (k : Option (List Bool)) (more : List (List Bool)) → lead (different ks) k ≡ lead (different ((ks ++ option_to_list k) ++ more)) k
lead-front ks None more = refl
lead-front ks (Some k) more = ap (λ n. Some n) (place-ahead ks k more)

-- ---- the states of a place in turn: what each gives by one bit, and then by the other

module _ (f g : List Bool → Option (List Bool)) (states : List (List Bool)) where
  abbrev pub both : List Bool → List (List Bool)
  both s = option_to_list (f s) ++ option_to_list (g s)

  -- what the first `k` states give
  abbrev pub reached : ℕ → List (List Bool)
  reached k = flat_map both (take k states)

  abbrev later : ℕ → List (List Bool)
  later k = flat_map both (drop (k + 1) states)

  reached-more : (k : ℕ) (s : List Bool) → slice_get states k ≡ Some s → (reached k ++ option_to_list (f s)) ++ option_to_list (g s) ≡ reached (k + 1)
  reached-more k s at = grind (arith, append_assoc, append-nil, flat_map-append, take-more states k s at)

  all-three : (k : ℕ) (s : List Bool) → slice_get states k ≡ Some s → ((reached k ++ option_to_list (f s)) ++ option_to_list (g s)) ++ later k ≡ flat_map both states
  all-three k s at = grind (arith, reached-more k s at, flat_map-append both (take (k + 1) states) (drop (k + 1) states), take-append-drop (k + 1) states)

  pub first-lead : (k : ℕ) (s : List Bool) → slice_get states k ≡ Some s → lead (different (reached k)) (f s) ≡ lead (different (flat_map both states)) (f s)
  first-lead k s at =
      lead-front (reached k) (f s) (option_to_list (g s) ++ later k)
      ∙ ap (λ ls. lead (different ls) (f s)) (sym (append_assoc (reached k ++ option_to_list (f s)) (option_to_list (g s)) (later k)) ∙ all-three k s at)

  pub second-lead : (k : ℕ) (s : List Bool) → slice_get states k ≡ Some s → lead (joined (different (reached k)) (f s)) (g s) ≡ lead (different (flat_map both states)) (g s)
  second-lead k s at =
      ap (λ ls. lead ls (g s)) (joined-more (reached k) (f s))
      ∙ lead-front (reached k ++ option_to_list (f s)) (g s) (later k)
      ∙ ap (λ ls. lead (different ls) (g s)) (all-three k s at)

  pub both-joined : (k : ℕ) (s : List Bool) → slice_get states k ≡ Some s → joined (joined (different (reached k)) (f s)) (g s) ≡ different (reached (k + 1))
  both-joined k s at =
      ap (λ ls. joined ls (g s)) (joined-more (reached k) (f s))
      ∙ joined-more (reached k ++ option_to_list (f s)) (g s)
      ∙ ap different (reached-more k s at)

-- ---- the part of each

module _ (m : List Bool → List Bool) (states : List (List Bool)) where
  parts-more : (k : ℕ) (s : List Bool) → slice_get states k ≡ Some s → map m (take k states) ++ m s ∷ [] ≡ map m (take (k + 1) states)
  parts-more k s at = sym (map-append m (take k states) (s ∷ [])) ∙ ap (map m) (sym (take-more states k s at))

  pub part-joined : (k : ℕ) (s : List Bool) → slice_get states k ≡ Some s → joined (different (map m (take k states))) (Some (m s)) ≡ different (map m (take (k + 1) states))
  part-joined k s at = joined-more (map m (take k states)) (Some (m s)) ∙ ap different (parts-more k s at)

  pub part-place : (k : ℕ) (s : List Bool) → slice_get states k ≡ Some s → position_or_len (is_same (m s)) (different (map m (take k states))) ≡ position_or_len (is_same (m s)) (different (map m states))
  part-place k s at =
      place-ahead (map m (take k states)) (m s) (map m (drop (k + 1) states))
      ∙ ap (λ ls. position_or_len (is_same (m s)) (different ls)) (
      ap (λ ls. ls ++ map m (drop (k + 1) states)) (parts-more k s at)
      ∙ sym (map-append m (take (k + 1) states) (drop (k + 1) states))
      ∙ ap (map m) (take-append-drop (k + 1) states))
