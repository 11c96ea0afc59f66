-- The wires at all times: different names, and positions.
use Rattle.std.proofs.Common.{◌≡◌, ℕ, zero, suc, ◌+◌, ◌-◌, ◌*◌, ◌<◌, ◌≤◌, true, List, [], ◌∷◌, map, length, drop, get_or, refl, sym, ap, ◌∙◌, arith}
use Rattle.std.specs.Prelude.{nat_lt}
use Rattle.std.specs.List.{list_all, flat_map, range_with_len}
use Rattle.std.proofs.Math.Nat.{mul-le-mul_right}
use Rattle.std.proofs.lemmas.List.{length-append, length-map, get_or-map, drop_at, append_cancel_right}
use Rattle.text_rules.specs.Names.{Name}
use Rattle.state_rules.proofs.Members.{from_map}
use Rattle.device_model.proofs.Ordered.{Rises}
use Rattle.device_model.proofs.SortedLists.{itself}
use Rattle.device_model.proofs.Apart.{Different, Different-rising, Different-append, Different-made}
use Rattle.device_model.proofs.BuiltDevices.{wire_at as name_at}
use Rattle.frame_unroller.specs.Times.{four_digits, wire_at}
use Rattle.frame_unroller.specs.Unrolling.{wires_at}
use Rattle.frame_unroller.specs.inner.Copying.{position_at}
use Rattle.frame_unroller.proofs.Members.{among-flat_map, among-range, length-chunks, get_or-chunks}

-- ---- names

-- the last five bytes, which give the time
abbrev last_five : Name → Name
last_five n = drop (length n - 5) n

tells_time : (t : ℕ) (w : Name) → last_five (wire_at t w) ≡ 64 ∷ four_digits t
tells_time t w = grind (arith, length-append, drop_at)

-- a lower time has other digits
times_differ : (t u : ℕ) (v w : Name) → t < u → wire_at t v ≡ wire_at u w → ⊥
times_differ t u v w lt e = let digits = sym (tells_time t v) ∙ ap last_five e ∙ tells_time u w in grind (arith, digits)

module _ (wires : List Name) where
  pub wires_differ : (a n : ℕ) → Rises itself wires → Different (flat_map (λ t. map (wire_at t) wires) (range_with_len a n))
  wires_differ a zero rise = tt
  wires_differ a (suc n) rise =
      Different-append (map (wire_at a) wires) (flat_map (λ t. map (wire_at t) wires) (range_with_len (a + 1) n))
      (Different-made (wire_at a) (λ v w e. append_cancel_right v w (64 ∷ four_digits a) e) wires (Different-rising wires rise)) (wires_differ (a + 1) n rise)
      (λ m first later.
      let s = among-flat_map (λ t. map (wire_at t) wires) (range_with_len (a + 1) n) m later in
      let r = from_map (wire_at a) m wires first in
      let u = from_map (wire_at s.0) m wires s.2 in
      times_differ a s.0 r.item u.item (omega (arith, among-range (a + 1) n s.0 s.1)) (sym r.gives ∙ u.gives))

  -- ---- places

  pub length-wires : (n : ℕ) → length (flat_map (λ t. map (wire_at t) wires) (range_with_len 1 n)) ≡ n * length wires
  length-wires n = length-chunks (λ t. map (wire_at t) wires) (length wires) (λ t. length-map wires (wire_at t)) 1 n

  module _ (frames t : ℕ) (some : 1 ≤ t) (few : t ≤ frames) where
    abbrev given : List Name
    given = flat_map (λ t. map (wire_at t) wires) (range_with_len 1 frames)

    given_at : (w : ℕ) → w < length wires → get_or given (position_at (length wires) t w) [] ≡ wire_at t (get_or wires w [])
    given_at w lt = grind (arith, get_or-chunks, length-map, get_or-map)

    pub positions-named : (ports : List ℕ) → list_all (λ port. nat_lt port (length wires)) ports ≡ true
        → map (name_at given) (map (position_at (length wires) t) ports) ≡ wires_at wires t ports
    positions-named [] h = refl
    positions-named (p ∷ ports) h = grind (arith, given_at, positions-named ports)

    pub positions-within : (ports : List ℕ) → list_all (λ port. nat_lt port (length wires)) ports ≡ true
        → list_all (λ port. nat_lt port (length given)) (map (position_at (length wires) t) ports) ≡ true
    positions-within [] h = refl
    positions-within (p ∷ ports) h =
        let most : ((t - 1) + 1) * length wires ≤ frames * length wires = mul-le-mul_right (length wires) (omega arith) in
        grind (arith, length-wires, positions-within ports)
