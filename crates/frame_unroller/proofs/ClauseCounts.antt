-- The number of clauses of the copies, counted part by part for the first time and for any later one.
use Rattle.std.proofs.Common.{◌≡◌, ℕ, zero, suc, ◌+◌, ◌-◌, ◌*◌, ◌<◌, ◌≤◌, true, false, List, [], ◌∷◌, ◌++◌, map, length, drop, get_or, append_assoc, arith}
use Rattle.std.specs.List.{flat_map, enumerate_from, range_with_len}
use Rattle.std.proofs.lemmas.List.{drop_more, drop_all, map-append, length-append, length-map, length-take, length-drop}
use Rattle.device_model.specs.declared.component.Component.{Component}
use Rattle.device_model.specs.Gates.{rule}
use Rattle.device_model.specs.Devices.{Device}
use Rattle.device_model.specs.Building.{joined}
use Rattle.bench_reader.specs.declared.sequential.Sequential.{Sequential}
use Rattle.clause_encoder.specs.Encoding.{raw_clauses, inner_count, inner_vars, first_inner, clauses_from, raw_count, wire_variable}
use Rattle.frame_unroller.specs.Frames.{is_delayed}
use Rattle.frame_unroller.specs.Diagnosis.{frame_wires}
use Rattle.frame_unroller.specs.Unrolling.{Copy, copies_of, copies_for, named_copy, frame_device}

-- ---- the clauses of parts after one another

module _ (device : Device) where
  clauses-append : (h z : ℕ) (xs ys : List Component)
      → clauses_from device h z (xs ++ ys) ≡ clauses_from device h z xs ++ clauses_from device (h + length xs) (z + inner_vars xs) ys
  clauses-append h z [] ys = grind arith
  clauses-append h z (x ∷ xs) ys = grind (arith, append_assoc, clauses-append (h + 1) (z + inner_count (rule x.kind) (length x.ports)) xs ys)

  -- `n` clauses, whatever variables they begin with
  abbrev pub Have : List Component → ℕ → Type 0
  Have parts n = (h z : ℕ) → length (clauses_from device h z parts) ≡ n

  have_both : (xs ys : List Component) (m n : ℕ) → Have xs m → Have ys n → Have (xs ++ ys) (m + n)
  have_both xs ys m n first second h z = grind (arith, clauses-append, length-append)

-- ---- copies

module _ (seq : Sequential) (frames : ℕ) where
  abbrev pub over : Device
  over = frame_device seq frames

  abbrev pub made : Copy → Component
  made c = joined (frame_wires seq frames) (named_copy seq.device.wires c)

  made_long : (c : Copy) → length (made c).ports ≡ length c.part.ports
  made_long c = grind (arith, length-map, length-append, length-take, length-drop)

  -- a part has `n` clauses
  abbrev pub Has : Component → ℕ → Type 0
  Has part n = (h z : ℕ) (vs : List ℕ) → length vs ≡ length part.ports → length (raw_clauses seq.device.tables (rule part.kind) h z vs) ≡ n

  -- its copies for time `t` have `n`
  abbrev pub HasAt : ℕ → ℕ × Component → ℕ → Type 0
  HasAt t p n = Have over (map made (copies_of seq t p)) n

  abbrev copy : ℕ → ℕ → Component → ℕ → Copy
  copy t place part before = record { place = place; part = part; before = before; now = t }

  one_copy : (c : Copy) (n : ℕ) → Has c.part n → Have over (made c ∷ []) n
  one_copy c n has h z = grind (arith, length-append, length-map, made_long c, has h z (map (wire_variable over) (made c).ports))

  -- at a later time each part has one copy
  pub at_later : (t : ℕ) → 2 ≤ t → (place : ℕ) (part : Component) (n : ℕ) → Has part n → HasAt t (place, part) n
  at_later t later place part n has h z = grind (arith, one_copy (copy t place part t) n has h z, one_copy (copy t place part (t - 1)) n has h z)

  -- at the first, each that is not delayed has one
  pub at_first : (place : ℕ) (part : Component) (n : ℕ) → is_delayed seq place ≡ false → Has part n → HasAt 1 (place, part) n
  at_first place part n is has h z = grind (arith, one_copy (copy 1 place part 1) n has h z)

  pub none_at_first : (place : ℕ) (part : Component) → is_delayed seq place ≡ true → HasAt 1 (place, part) 0
  none_at_first place part is = grind arith

  -- ---- part by part

  abbrev left_at : ℕ → ℕ → List Component
  left_at t place = map made (flat_map (copies_of seq t) (enumerate_from place (drop place seq.device.parts)))

  -- all parts at time `t` have `count` clauses more than those from `place` on
  abbrev pub Counted : ℕ → ℕ → ℕ → Type 0
  Counted t place count = (rest : ℕ) → Have over (left_at t place) rest → Have over (map made (copies_for seq t)) (count + rest)

  pub counted_more : (t place count n m : ℕ) (part : Component) → place < length seq.device.parts → part ≡ get_or seq.device.parts place part
      → HasAt t (place, part) n → Counted t place count → m ≡ count + n → Counted t (place + 1) m
  counted_more t place count n m part lt is one so_far sum rest have =
      let both : Have over (left_at t place) (n + rest) =
      λ h z. grind (arith, drop_more, map-append, have_both over (map made (copies_of seq t (place, part))) (left_at t (place + 1)) n rest one have) in
      λ h z. grind (arith, so_far (n + rest) both h z)

  counted_all : (t place count : ℕ) → length seq.device.parts ≤ place → Counted t place count → Have over (map made (copies_for seq t)) count
  counted_all t place count all so_far h z = grind (arith, so_far 0 (λ h z. grind (arith, drop_all)) h z)

  -- ---- time by time

  module _ (first later place : ℕ) (all : length seq.device.parts ≤ place) (one : Counted 1 place first) (after : (t : ℕ) → 2 ≤ t → Counted t place later) where
    later_times : (a n : ℕ) → 2 ≤ a → Have over (map made (flat_map (copies_for seq) (range_with_len a n))) (n * later)
    later_times a zero from = λ h z. omega arith
    later_times a (suc n) from = λ h z.
        grind (arith, map-append, have_both over (map made (copies_for seq a)) (map made (flat_map (copies_for seq) (range_with_len (a + 1) n))) later (n * later) (counted_all a place later all (after a from)) (later_times (a + 1) n (omega arith)))

    all_times : (n : ℕ) → Have over (map made (flat_map (copies_for seq) (range_with_len 1 (suc n)))) (first + n * later)
    all_times n = λ h z.
        grind (arith, map-append, have_both over (map made (copies_for seq 1)) (map made (flat_map (copies_for seq) (range_with_len 2 n))) first (n * later) (counted_all 1 place first all one) (later_times 2 n (omega arith)))

    pub count-copies : 1 ≤ frames → first + (frames - 1) * later ≡ raw_count over
    count-copies some = grind (arith, all_times (frames - 1) 1 (first_inner over))
