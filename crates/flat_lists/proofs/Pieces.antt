-- Lists one after the other.
use Rattle.std.proofs.Common.{◌≡◌, ℕ, zero, suc, ◌+◌, ◌-◌, ◌<◌, ◌≤◌, List, [], ◌∷◌, ◌++◌, length, take, drop, get_or, refl, ap, sym, ◌∙◌, subst, arith}
use Rattle.std.specs.List.{sum_by}
use Rattle.std.proofs.lemmas.List.{length-append, length-drop, take_all, drop_at, drop-append-le, take-append-le, length-take-le}
use Rattle.std.proofs.lemmas.List.Sums.{sum_by-cons}
use Rattle.flat_lists.specs.Flat.{pieces, EndAt, start_at}

pub EndAt-start : (len start : ℕ) (ends : List ℕ) → EndAt len start ends → start ≤ len
EndAt-start len start [] e = omega arith
EndAt-start len start (end ∷ ends) h = omega (arith, h.0, EndAt-start len end ends h.1)

EndAt-push : (len longer start : ℕ) (ends : List ℕ) → EndAt len start ends → len ≤ longer → EndAt longer start (ends ++ longer ∷ [])
EndAt-push len longer start [] e h = (omega arith, refl)
EndAt-push len longer start (end ∷ ends) e h = (e.0, EndAt-push len longer end ends e.1 h)

start_at-cons : (start end : ℕ) (ends : List ℕ) (at : ℕ) → start_at end ends at ≡ start_at start (end ∷ ends) (suc at)
start_at-cons start end ends zero = refl
start_at-cons start end ends (suc k) = refl

EndAt-at : (len start : ℕ) (ends : List ℕ) (at : ℕ) → EndAt len start ends → at < length ends
    → (start_at start ends at ≤ get_or ends at 0) × (get_or ends at 0 ≤ len)
EndAt-at len start [] at e h = absurd (omega arith)
EndAt-at len start (end ∷ ends) zero e h = (e.0, EndAt-start len end ends e.1)
EndAt-at len start (end ∷ ends) (suc at) e h =
    let rest = EndAt-at len end ends at e.1 (omega arith) in
    (omega (arith, rest.0, start_at-cons start end ends at), rest.1)

module _ {A : Type 0} where
  pub length-pieces : (items : List A) (start : ℕ) (ends : List ℕ) → length (pieces items start ends) ≡ length ends
  length-pieces items start [] = refl
  length-pieces items start (end ∷ ends) = ap suc (length-pieces items end ends)

  pieces-at : (items : List A) (start : ℕ) (ends : List ℕ) (at : ℕ) → at < length ends
      → get_or (pieces items start ends) at [] ≡ take (get_or ends at 0 - start_at start ends at) (drop (start_at start ends at) items)
  pieces-at items start [] at h = absurd (omega arith)
  pieces-at items start (end ∷ ends) zero h = refl
  pieces-at items start (end ∷ ends) (suc at) h = pieces-at items end ends at (omega arith)
      ∙ (λ i. take (get_or ends at 0 - start_at-cons start end ends at i) (drop (start_at-cons start end ends at i) items))

  pieces-push : (items more : List A) (start : ℕ) (ends : List ℕ) → EndAt (length items) start ends
      → pieces (items ++ more) start (ends ++ length (items ++ more) ∷ []) ≡ pieces items start ends ++ more ∷ []
  pieces-push items more start [] e = λ i. one i ∷ [] where
    one : take (length (items ++ more) - start) (drop start (items ++ more)) ≡ more
    one = ap (take (length (items ++ more) - start)) (drop_at items more start (sym e))
        ∙ take_all (length (items ++ more) - start) more (omega (arith, length-append items more))
  pieces-push items more start (end ∷ ends) e = λ i. front i ∷ pieces-push items more end ends e.1 i where
    front : take (end - start) (drop start (items ++ more)) ≡ take (end - start) (drop start items)
    front =
        let last = EndAt-start (length items) end ends e.1 in
        ap (take (end - start)) (drop-append-le start items more (omega (arith, e.0, last)))
        ∙ take-append-le (end - start) (drop start items) more (omega (arith, length-drop start items, e.0, last))

  sum-from : (items : List A) (start : ℕ) (ends : List ℕ) → EndAt (length items) start ends → start + sum_by length (pieces items start ends) ≡ length items
  sum-from items start [] e = omega arith
  sum-from items start (end ∷ ends) e =
      let last = EndAt-start (length items) end ends e.1 in
      omega (
        arith,
        sum_by-cons length (take (end - start) (drop start items)) (pieces items end ends),
        sum-from items end ends e.1,
        e.0,
        length-take-le (end - start) (drop start items) (omega (arith, length-drop start items, e.0, last)),
      )

  pub sum-all : (items : List A) (ends : List ℕ) → EndAt (length items) 0 ends → sum_by length (pieces items 0 ends) ≡ length items
  sum-all items ends e = omega (arith, sum-from items 0 ends e)

  -- A list and its end were added after the others.
  pub pushed : (items more longer : List A) (ends moved : List ℕ) (len : ℕ) → longer ≡ items ++ more → moved ≡ ends ++ len ∷ [] → len ≡ length longer → EndAt (length items) 0 ends
      → EndAt (length longer) 0 moved × (pieces longer 0 moved ≡ pieces items 0 ends ++ more ∷ [])
  pushed items more longer ends moved len e f n h = (
    subst (λ m. EndAt (length longer) 0 m) (sym all) (subst (λ m. EndAt (length m) 0 (ends ++ length longer ∷ [])) (sym e) written),
    (λ i. pieces (e i) 0 (all i)) ∙ (λ i. pieces (items ++ more) 0 (ends ++ length (e i) ∷ [])) ∙ pieces-push items more 0 ends h,
  ) where
    all : moved ≡ ends ++ length longer ∷ []
    all = f ∙ (λ i. ends ++ n i ∷ [])

    written : EndAt (length (items ++ more)) 0 (ends ++ length longer ∷ [])
    written = subst (λ m. EndAt (length (items ++ more)) 0 (ends ++ length m ∷ [])) (sym e) (EndAt-push (length items) (length (items ++ more)) 0 ends h (omega (arith, length-append items more)))

  -- there are as many ends as lists
  pub has_end : (items : List A) (from : ℕ) (ends : List ℕ) (lists : List (List A)) (at : ℕ) → pieces items from ends ≡ lists → at < length lists → at < length ends
  has_end items from ends lists at e h = omega (arith, length-pieces items from ends, ap length e)

  -- the list at a place lies from its start to its end
  pub record IsPiece (items : List A) (ends : List ℕ) (lists : List (List A)) (at start end : ℕ) : Type 0 where
    pub order : start ≤ end
    pub within : end ≤ length items
    pub piece : take (end - start) (drop start items) ≡ get_or lists at []

  pub piece_at : (items : List A) (from : ℕ) (ends : List ℕ) (lists : List (List A)) (at start : ℕ) → EndAt (length items) from ends → pieces items from ends ≡ lists → at < length lists
      → start ≡ start_at from ends at → IsPiece items ends lists at start (get_or ends at 0)
  piece_at items from ends lists at start valid e h s =
      let lt = has_end items from ends lists at e h in
      let inside = EndAt-at (length items) from ends at valid lt in
      record {
        order = omega (arith, inside.0);
        within = omega (arith, inside.1);
        piece = (λ i. take (get_or ends at 0 - s i) (drop (s i) items)) ∙ sym (pieces-at items from ends at lt) ∙ ap (λ ls. get_or ls at []) e;
      }
