-- The copies of parts: what each is, and that their names rise.
use Rattle.std.proofs.Common.{◌≡◌, ℕ, zero, suc, ◌+◌, ◌<◌, ◌≤◌, List, [], ◌∷◌, length, arith}
use Rattle.std.specs.List.{flat_map, enumerate_from, range_with_len}
use Rattle.text_rules.specs.Names.{Name}
use Rattle.state_rules.proofs.Members.{In}
use Rattle.device_model.specs.declared.component.Component.{Component}
use Rattle.device_model.proofs.Ordered.{Rises, Below-among}
use Rattle.device_model.proofs.SortedDevices.{component_name}
use Rattle.bench_reader.specs.declared.sequential.Sequential.{Sequential}
use Rattle.frame_unroller.specs.Times.{copy_at}
use Rattle.frame_unroller.specs.Unrolling.{Copy, copies_of, copies_for, copies}
use Rattle.frame_unroller.proofs.Members.{among-flat_map, among-range, among-enumerate}
use Rattle.frame_unroller.proofs.Order.{copies_rise, Rises-append}

abbrev pub copy_name : Copy → Name
copy_name c = copy_at c.now c.part.name

module _ (seq : Sequential) where
  -- ---- one part at one time

  is_copy : (t : ℕ) (p : ℕ × Component) (c : Copy) → In c (copies_of seq t p) → (c.now ≡ t) × (c.part ≡ p.1)
  is_copy t p c m = grind arith

  -- ---- all parts at one time

  parts_rise : (t a : ℕ) (parts : List Component) → Rises component_name parts → Rises copy_name (flat_map (copies_of seq t) (enumerate_from a parts))
  parts_rise t a [] rise = tt
  parts_rise t a (p ∷ parts) rise =
      Rises-append copy_name (copies_of seq t (a, p)) _ (grind arith) (parts_rise t (a + 1) parts rise.1)
      (λ x y m k.
      let r = among-flat_map (copies_of seq t) (enumerate_from (a + 1) parts) y k in
      let below = Below-among component_name p.name parts r.0.1 rise.0 (among-enumerate (a + 1) parts r.0 r.1).2 in
      grind (arith, is_copy t (a, p) x m, is_copy t r.0 y r.2))

  -- `c` is a copy, if there are `frames` frames
  pub record IsCopy (frames : ℕ) (c : Copy) : Type 0 where
    pub within : c.place < length seq.device.parts
    pub there : In c.part seq.device.parts
    pub some : 1 ≤ c.before
    pub order : c.before ≤ c.now
    pub few : c.now ≤ frames

  is_copy_for : (t : ℕ) (c : Copy) → In c (copies_for seq t) → (c.now ≡ t) × IsCopy t c
  is_copy_for t c m = grind (arith, among-flat_map, among-enumerate)

  -- ---- all times

  module _ (rise : Rises component_name seq.device.parts) where
    pub times_in_order : (a n : ℕ) → Rises copy_name (flat_map (copies_for seq) (range_with_len a n))
    times_in_order a zero = tt
    times_in_order a (suc n) =
        Rises-append copy_name (copies_for seq a) _ (parts_rise a 0 seq.device.parts rise) (times_in_order (a + 1) n)
        (λ x y m k.
        let r = among-flat_map (copies_for seq) (range_with_len (a + 1) n) y k in
        copies_rise x.now y.now x.part.name y.part.name (omega (arith, (is_copy_for a x m).0, (is_copy_for r.0 y r.2).0, among-range (a + 1) n r.0 r.1)))

  pub are_copies : (frames : ℕ) (c : Copy) → In c (copies seq frames) → IsCopy frames c
  are_copies frames c m = grind (arith, among-flat_map, is_copy_for, among-range)
