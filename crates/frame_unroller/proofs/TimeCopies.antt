-- The copies for a time, part by part.
use Rattle.std.proofs.Common.{◌≡◌, ℕ, zero, suc, ◌+◌, ◌-◌, ◌*◌, ◌<◌, ◌≤◌, Bool, false, not, List, [], ◌∷◌, ◌++◌, map, length, get_or, refl, sym, ap, ◌∙◌, arith}
use Rattle.std.specs.List.{flat_map, filter, enumerate_from, range_with_len, count_by}
use Rattle.std.proofs.lemmas.List.{map-append, length-append, flat_map_more}
use Rattle.std.proofs.lemmas.List.Sums.{length-filter}
use Rattle.text_rules.specs.Names.{Name}
use Rattle.state_rules.proofs.Lists.{range_more}
use Rattle.device_model.specs.declared.component.Component.{Component}
use Rattle.bench_reader.specs.declared.sequential.Sequential.{Sequential}
use Rattle.frame_unroller.specs.Frames.{is_delayed}
use Rattle.frame_unroller.specs.Times.{wire_at}
use Rattle.frame_unroller.specs.Unrolling.{Copy, copies_of, copies_for, copies}
use Rattle.frame_unroller.specs.inner.Copying.{given_copy, AreCopies}

-- ---- the number of copies

module _ (seq : Sequential) where
  length-later : (t a : ℕ) (parts : List Component) → 2 ≤ t → length (flat_map (copies_of seq t) (enumerate_from a parts)) ≡ length parts
  length-later t a [] later = refl
  length-later t a (p ∷ parts) later = grind (arith, length-later t (a + 1) parts later)

  length-times : (a n : ℕ) → 2 ≤ a → length (flat_map (copies_for seq) (range_with_len a n)) ≡ n * length seq.device.parts
  length-times a zero later = omega arith
  length-times a (suc n) later = grind (arith, length-append, length-later, length-times (a + 1) n)

  -- at the first time there is a copy of each part that is not delayed
  length-first : (delays : List Bool) (a : ℕ) (parts : List Component) → length delays ≡ length parts
      → ((k : ℕ) → k < length parts → get_or delays k false ≡ is_delayed seq (a + k))
      → length (flat_map (copies_of seq 1) (enumerate_from a parts)) ≡ length (filter not delays)
  length-first [] a [] many said = refl
  length-first [] a (p ∷ parts) many said = absurd (omega arith)
  length-first (b ∷ delays) a [] many said = absurd (omega arith)
  length-first (b ∷ delays) a (p ∷ parts) many said =
      let later : (k : ℕ) → a + suc k ≡ (a + 1) + k = λ k. omega arith in
      let at : a + 0 ≡ a = omega arith in
      let rest = length-first delays (a + 1) parts (omega arith) (λ k lt. said (suc k) (omega arith) ∙ ap (is_delayed seq) (later k)) in
      let here : b ≡ is_delayed seq a = said 0 (omega arith) ∙ ap (is_delayed seq) at in
      grind (arith, length-append)

  pub length-copies : (delays : List Bool) (frames : ℕ) → 1 ≤ frames → length delays ≡ length seq.device.parts
      → ((k : ℕ) → k < length seq.device.parts → get_or delays k false ≡ is_delayed seq k)
      → count_by not delays + (frames - 1) * length seq.device.parts ≡ length (copies seq frames)
  length-copies delays zero some many said = absurd (omega arith)
  length-copies delays (suc n) some many said =
      let less : suc n - 1 ≡ n = omega arith in
      let at : (k : ℕ) → k ≡ 0 + k = λ k. omega arith in
      let first = length-first delays 0 seq.device.parts many (λ k lt. said k lt ∙ ap (is_delayed seq) (at k)) in
      let counted = length-filter not delays in
      grind (arith, length-append, length-times)

-- ---- one more time

time_more : {A : Type 0} (f : ℕ → List A) (n : ℕ) → flat_map f (range_with_len 1 n) ++ f (n + 1) ≡ flat_map f (range_with_len 1 (n + 1))
time_more f n =
    let next : n + 1 ≡ 1 + n = omega arith in
    ap (λ t. flat_map f (range_with_len 1 n) ++ f t) next ∙ flat_map_more f [] (range_with_len 1 n) (1 + n) ∙ ap (flat_map f) (sym (range_more 1 n))

module _ (seq : Sequential) (time : ℕ) (some : 1 ≤ time) where
  more : {A : Type 0} (f : ℕ → List A) (done new : List A) → done ≡ flat_map f (range_with_len 1 (time - 1)) → new ≡ done ++ f time → new ≡ flat_map f (range_with_len 1 (time + 1 - 1))
  more f done new so_far added = grind (arith, time_more)

  shown_more : {B : Type 0} (shown : Copy → B) (done new : List B) → done ≡ map shown (copies seq (time - 1)) → new ≡ done ++ map shown (copies_for seq time) → new ≡ map shown (copies seq (time + 1 - 1))
  shown_more shown done new so_far added = grind (arith, map-append, more)

  pub copies_more : (parts new_parts : List Component) (places new_places : List ℕ) (wires new_wires : List Name) → AreCopies seq (time - 1) parts places wires
      → new_parts ≡ parts ++ map (given_copy (length seq.device.wires)) (copies_for seq time)
      → new_places ≡ places ++ map (λ (c : Copy). c.place) (copies_for seq time)
      → new_wires ≡ wires ++ map (wire_at time) seq.device.wires
      → AreCopies seq (time + 1 - 1) new_parts new_places new_wires
  copies_more parts new_parts places new_places wires new_wires are p q w = grind (arith, shown_more, more)
