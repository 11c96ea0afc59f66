-- Sorted wires with their positions give the place in order of the wire at each position.
use Rattle.std.proofs.Common.{◌≡◌, ◌≢◌, ℕ, zero, suc, ◌+◌, ◌<◌, inl, inr, true, List, [], ◌∷◌, ◌++◌, map, length, take, get_or, slice_index, refl, sym, ap, subst, ◌∙◌, arith}
use Rattle.std.specs.Prelude.{nat_lt}
use Rattle.std.specs.List.{All, AllPairs, list_all, position_or_len}
use Rattle.std.specs.List.Sorted.{IsPermutation}
use Rattle.std.proofs.Math.Seq.{take-append_seam}
use Rattle.std.proofs.lemmas.Bool.{ltb-true}
use Rattle.std.proofs.lemmas.List.{get_or-map, length-map}
use Rattle.std.proofs.lemmas.List.Sorted.{length_permutation, IsPermutation-sym}
use Rattle.text_rules.specs.Names.{Name, same_name}
use Rattle.text_rules.proofs.NameLemmas.{same_if_equal}
use Rattle.state_rules.proofs.Members.{In, In-at}
use Rattle.device_model.specs.declared.component.Component.{Component}
use Rattle.device_model.specs.Order.{sorted_distinct}
use Rattle.device_model.specs.TruthTable.{TruthTable}
use Rattle.device_model.specs.Devices.{Device, has_wires}
use Rattle.device_model.specs.Building.{place_in, renumbered, device_of}
use Rattle.device_model.specs.inner.Sorting.{numbered_from, with_places}
use Rattle.device_model.proofs.NameOrder.{Below, Below-irreflexive, same_name-above}
use Rattle.device_model.proofs.Ordered.{Below-among, Rises, Rises-sorted_distinct}
use Rattle.device_model.proofs.SortedLists.{itself, Contains-from_among, among_permutation, Rises-unmap}
use Rattle.device_model.proofs.SortedDevices.{list_all-among, component_name, sorted_distinct-map, list_all-sorted_distinct}

-- a numbered name is at its number
numbered-tells : (p : ℕ) (ns : List Name) (w : Name × ℕ) → In w (numbered_from p ns) → (i : ℕ) × (i < length ns) × (w.1 ≡ p + i) × (w.0 ≡ get_or ns i [])
numbered-tells p [] w m = absurd m
numbered-tells p (n ∷ ns) w (inl e) = (0, omega arith, (let f = ap (λ (v : Name × ℕ). v.1) e in omega arith), ap (λ (v : Name × ℕ). v.0) e)
numbered-tells p (n ∷ ns) w (inr m) = let r = numbered-tells (p + 1) ns w m in (suc r.0, omega (arith, r.1), omega (arith, r.2), r.3)

-- and each name is numbered
numbered-has : (p : ℕ) (ns : List Name) (i q : ℕ) → i < length ns → q ≡ p + i → In (get_or ns i [], q) (numbered_from p ns)
numbered-has p [] i q l e = absurd (omega arith)
numbered-has p (n ∷ ns) zero q l e = let f : q ≡ p = omega arith in inl (ap (λ (k : ℕ). (n, k)) f)
numbered-has p (n ∷ ns) (suc i) q l e = inr (numbered-has (p + 1) ns i q (omega arith) (omega arith))

length-numbered_from : (p : ℕ) (ns : List Name) → length (numbered_from p ns) ≡ length ns
length-numbered_from p [] = refl
length-numbered_from p (n ∷ ns) = ap suc (length-numbered_from (p + 1) ns)

pub Rises-get_or : {A : Type 0} (name : A → Name) (xs : List A) (i j : ℕ) (d : A) → Rises name xs → i < j → j < length xs → Below (name (get_or xs i d)) (name (get_or xs j d))
Rises-get_or name [] i j d h l k = absurd (omega arith)
Rises-get_or name (x ∷ xs) i zero d h l k = absurd (omega arith)
Rises-get_or name (x ∷ xs) zero (suc j) d h l k = Below-among name (name x) xs (get_or xs j d) h.0 (In-at xs j d (omega arith))
Rises-get_or name (x ∷ xs) (suc i) (suc j) d h l k = Rises-get_or name xs i j d h.1 (omega arith) (omega arith)

-- a name of a rising list has no earlier place
pub place_in-rising : (ns : List Name) (k : ℕ) → Rises itself ns → k < length ns → position_or_len (same_name (get_or ns k [])) ns ≡ k
place_in-rising [] k h l = absurd (omega arith)
place_in-rising (n ∷ ns) zero h l = rw (same_if_equal n n refl) refl
place_in-rising (n ∷ ns) (suc k) h l = grind (arith, same_name-above, Below-among itself n ns, In-at ns k [], place_in-rising ns k h.1)

abbrev pub wire_name : Name × ℕ → Name
wire_name w = w.0

-- what is known of sorted wires with their positions
module _ (wires : List Name) (ss : List (Name × ℕ)) (moved : IsPermutation (numbered_from 0 wires) ss) (named : map wire_name ss ≡ sorted_distinct itself wires) where
  pub length-wires : length ss ≡ length wires
  length-wires = length_permutation (numbered_from 0 wires) ss moved ∙ length-numbered_from 0 wires

  rising : Rises wire_name ss
  rising = Rises-unmap wire_name ss (subst (Rises itself) (sym named) (Rises-sorted_distinct itself wires))

  tells : (w : Name × ℕ) → In w ss → (w.1 < length wires) × (w.0 ≡ get_or wires w.1 [])
  tells w m = grind (arith, numbered-tells 0 wires w (among_permutation ss (numbered_from 0 wires) (IsPermutation-sym (numbered_from 0 wires) ss moved) w m))

  pub positions_fit : All (λ w. w.1 < length ss) ss
  positions_fit k d l = omega (arith, (tells (get_or ss k d) (In-at ss k d l)).0, length-wires)

  pub positions_differ : AllPairs (λ v w. v.1 ≢ w.1) ss
  positions_differ i j d l k e =
      let up = Rises-get_or wire_name ss i j d rising l k in
      grind (arith, tells (get_or ss i d) (In-at ss i d (omega arith)), tells (get_or ss j d) (In-at ss j d k), Below-irreflexive)

  module _ (places : List ℕ) (filled : (k : ℕ) (w : Name × ℕ) → k < length ss → slice_index places (get_or ss k w).1 ≡ k) where
    -- the place of a position is that of its wire in the sorted wires
    place_of_position : (port : ℕ) → port < length wires → slice_index places port ≡ place_in (sorted_distinct itself wires) (get_or wires port [])
    place_of_position port l =
        let w : Name × ℕ = (get_or wires port [], port) in
        let r = Contains-from_among ss w (among_permutation (numbered_from 0 wires) ss moved w (numbered-has 0 wires port port l (omega arith))) in
        let up : Rises itself (map wire_name ss) = subst (Rises itself) (sym named) (Rises-sorted_distinct itself wires) in
        let at_place : slice_index places port ≡ r.0 = sym (ap (λ (v : Name × ℕ). slice_index places v.1) r.2) ∙ filled r.0 w r.1 in
        let name_there : get_or (map wire_name ss) r.0 [] ≡ w.0 = get_or-map wire_name ss r.0 w [] r.1 ∙ ap wire_name r.2 in
        grind (arith, length-map, place_in-rising)

    ports_placed : (ports : List ℕ) → ((p : ℕ) → In p ports → p < length wires)
        → map (slice_index places) ports ≡ map (λ port. place_in (sorted_distinct itself wires) (get_or wires port [])) ports
    ports_placed [] h = refl
    ports_placed (p ∷ ps) h = cc (place_of_position p (h p (inl refl)), ports_placed ps (λ q m. h q (inr m)))

    part_placed : (part : Component) → has_wires (length wires) part ≡ true → with_places places part ≡ renumbered wires part
    part_placed part h = grind (arith, ports_placed, list_all-among)

    parts_placed : (parts : List Component) → ((p : Component) → In p parts → has_wires (length wires) p ≡ true) → map (with_places places) parts ≡ map (renumbered wires) parts
    parts_placed [] h = refl
    parts_placed (p ∷ ps) h = grind (arith, part_placed, parts_placed ps)

    -- the parts in order, with the places, are the renumbered parts in order
    pub parts_sorted_distinct : (parts : List Component) → list_all (has_wires (length wires)) parts ≡ true
        → map (with_places places) (sorted_distinct component_name parts) ≡ sorted_distinct component_name (map (renumbered wires) parts)
    parts_sorted_distinct parts h =
        let joined = list_all-sorted_distinct component_name (has_wires (length wires)) parts h in
        grind (arith, parts_placed, list_all-among, sorted_distinct-map)

-- the ports of parts in order fit the sorted wires
pub ports_fit : (parts : List Component) (n m : ℕ) → m ≡ n → list_all (has_wires n) parts ≡ true → All (λ p. All (λ port. port < m) p.ports) (sorted_distinct component_name parts)
ports_fit parts n m e h k d l i f b =
    let p = get_or (sorted_distinct component_name parts) k d in
    let one = list_all-among (has_wires n) (sorted_distinct component_name parts) (list_all-sorted_distinct component_name (has_wires n) parts h) p (In-at (sorted_distinct component_name parts) k d l) in
    omega (arith, ltb-true (get_or p.ports i f) n (list_all-among (λ q. nat_lt q n) p.ports one (get_or p.ports i f) (In-at p.ports i f b)))

-- the first items, after a write over them
pub written_back : {A : Type 0} (n : ℕ) (xs zs : List A) → n ≡ length xs → take n (xs ++ zs) ≡ xs
written_back n xs zs e = ap (λ (k : ℕ). take k (xs ++ zs)) e ∙ take-append_seam xs zs

-- the device that the last steps make is that of the parts and wires as they were given
pub assembled : (parts : List Component) (wires : List Name) (tables : List TruthTable) (new : List Component) (names : List Name) (ss : List (Name × ℕ)) (places : List ℕ)
    → IsPermutation (numbered_from 0 wires) ss → map wire_name ss ≡ sorted_distinct itself wires
    → ((k : ℕ) (w : Name × ℕ) → k < length ss → slice_index places (get_or ss k w).1 ≡ k)
    → list_all (has_wires (length wires)) parts ≡ true
    → new ≡ map (with_places places) (sorted_distinct component_name parts) → names ≡ map wire_name ss
    → ◌≡◌ {A = Device} (record { parts = new; wires = names; tables = tables }) (device_of parts wires tables)
assembled parts wires tables new names ss places moved named filled joined is_new is_names =
    let p = is_new ∙ parts_sorted_distinct wires ss moved named places filled parts joined in
    let w = is_names ∙ named in
    λ j. record { parts = p j; wires = w j; tables = tables }
