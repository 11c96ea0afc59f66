-- No clause of the copies is left out when the health of a part replaces that of its copies: a clause has the health of at most one
-- copy, and all other variables stay different.
use Rattle.std.proofs.Common.{◌≡◌, ℕ, ◌+◌, ◌-◌, ◌<◌, ◌≤◌, ◌⊎◌, inl, inr, true, false, not, List, [], ◌∷◌, ◌++◌, map, length, ℤ, neg_ℤ, refl, ap, ◌∙◌, arith}
use Rattle.std.specs.List.{All, list_any, list_all}
use Rattle.std.proofs.lemmas.Bool.{ne_eqb, and_parts}
use Rattle.std.proofs.lemmas.List.{length-map, get_or-map, get_or_append_left, get_or-append_right}
use Rattle.std.proofs.lemmas.List.FromFn.{get_or-range_with_len}
use Rattle.device_model.specs.declared.component.Component.{Component}
use Rattle.device_model.specs.Gates.{rule}
use Rattle.device_model.specs.Devices.{Device, IsDevice, takes_ports, has_arity}
use Rattle.clause_encoder.specs.Clauses.{Clause, var_of, is_positive, vars_rise, is_clause}
use Rattle.clause_encoder.specs.Encoding.{same_literal, with_literal, sorted, is_tautology, tidy, inner_count, raw_clauses, wire_variable, first_inner, clauses_from, all_clauses}
use Rattle.clause_encoder.specs.Replacing.{variable_for, literal_for}
use Rattle.clause_encoder.proofs.Literals.{AllIn, neg-literal, var_of-literal}
use Rattle.clause_encoder.proofs.MentionedVariables.{Of, OfEach, Variables, Of-raw}
use Rattle.clause_encoder.proofs.OtherVariables.{raw_from}
use Rattle.frame_unroller.specs.Unrolling.{shared_variables}

-- ---- what is true of all variables of a clause is true of it sorted

module _ (P : ℕ → Type 0) where
  Of-with_literal : (l : ℤ) (c : Clause) → P (var_of l) → Of P c → Of P (with_literal l c)
  Of-with_literal l [] h k = (h, tt)
  Of-with_literal l (b ∷ c) h k = grind (arith, Of-with_literal l c h k.1)

  pub Of-sorted : (c : Clause) → Of P c → Of P (sorted c)
  Of-sorted [] h = tt
  Of-sorted (l ∷ c) h = Of-with_literal l (sorted c) h.0 (Of-sorted c h.1)

-- ---- a clause has the health of at most one part

-- `v` is the health `h`, or is above that of all parts
abbrev pub Names : ℕ → ℕ → ℕ → Type 0
Names parts h v = (v ≡ h) ⊎ (parts < v)

abbrev pub OneEach : ℕ → List Clause → Type 0
OneEach parts [] = Unit {0}
OneEach parts (c ∷ cs) = ((h : ℕ) × Of (Names parts h) c) × OneEach parts cs

OneEach-more : (parts h : ℕ) (cs ds : List Clause) → OfEach (Names parts h) cs → OneEach parts ds → OneEach parts (cs ++ ds)
OneEach-more parts h [] ds each more = more
OneEach-more parts h (c ∷ cs) ds each more = ((h, each.1), OneEach-more parts h cs ds each.2 more)

OneEach-tidy : (parts : ℕ) (cs : List Clause) → OneEach parts cs → OneEach parts (tidy cs)
OneEach-tidy parts [] h = tt
OneEach-tidy parts (c ∷ cs) h = grind (arith, Of-sorted, OneEach-tidy parts cs h.1)

module _ (device : Device) where
  wires_only : (h : ℕ) (ports : List ℕ) → Variables (Names (length device.parts) h) (map (wire_variable device) ports)
  wires_only h [] = tt
  wires_only h (port ∷ ports) = (inr (omega arith), wires_only h ports)

  one_health : (h z : ℕ) (parts : List Component) → length device.parts < z → list_all (has_arity device.tables) parts ≡ true
      → OneEach (length device.parts) (clauses_from device h z parts)
  one_health h z [] hz arities = tt
  one_health h z (part ∷ parts) hz arities =
      let fit = and_parts (has_arity device.tables part) (list_all (has_arity device.tables) parts) arities in
      OneEach-more (length device.parts) h (raw_clauses device.tables (rule part.kind) h z (map (wire_variable device) part.ports)) _
      (Of-raw (Names (length device.parts) h) h (inl refl) device.tables (rule part.kind) z _ (λ v le lt. inr (omega arith)) (wires_only h part.ports)
      (ap (takes_ports device.tables (rule part.kind)) (length-map part.ports (wire_variable device)) ∙ fit.0))
      (one_health (h + 1) (z + inner_count (rule part.kind) (length part.ports)) parts (omega arith) fit.1)

  pub one_health-tidy : IsDevice device → OneEach (length device.parts) (tidy (all_clauses device))
  one_health-tidy valid = OneEach-tidy (length device.parts) (all_clauses device) (one_health 1 (first_inner device) device.parts (omega arith) valid.arities)

-- ---- so no two variables of a clause become one

module _ (parts vars : ℕ) (places : List ℕ) (many : length places ≤ vars) (within : All (λ place. place < parts) places) where
  abbrev new : List ℕ
  new = shared_variables parts places vars

  front : (v : ℕ) → 1 ≤ v → v ≤ length places → variable_for new v ≤ parts
  front v some le = grind (arith, get_or_append_left, get_or-map, length-map, within (v - 1) 0)

  back : (v : ℕ) → length places < v → v ≤ vars → variable_for new v ≡ parts + 1 + (v - 1 - length places)
  back v above le = grind (arith, get_or-append_right, length-map, get_or-range_with_len)

  differ : (h v w : ℕ) → 1 ≤ v → v < w → w ≤ vars → Names (length places) h v → Names (length places) h w → variable_for new v ≡ variable_for new w → ⊥
  differ h v w some lt le given k same = grind (arith, back, front)

  abbrev made : ℤ → ℤ
  made = literal_for new

  negated : (l : ℤ) → var_of (neg_ℤ (made l)) ≡ variable_for new (var_of l)
  negated l = ap var_of (neg-literal (is_positive l) (variable_for new (var_of l))) ∙ var_of-literal (not (is_positive l)) (variable_for new (var_of l))

  no_opposite : (h below : ℕ) (l : ℤ) (c : Clause) → 1 ≤ var_of l → var_of l ≤ below → Names (length places) h (var_of l) → vars_rise below c ≡ true → AllIn vars c → Of (Names (length places) h) c
      → list_any (same_literal (neg_ℤ (made l))) (map made c) ≡ false
  no_opposite h below l [] some le one rise in_range each = refl
  no_opposite h below l (k ∷ c) some le one rise in_range each =
      let apart = differ h (var_of l) (var_of k) in
      grind (arith, ne_eqb, negated, var_of-literal, no_opposite h (var_of k) l c some)

  no_tautology : (h below : ℕ) (c : Clause) → vars_rise below c ≡ true → AllIn vars c → Of (Names (length places) h) c → is_tautology (map made c) ≡ false
  no_tautology h below [] rise in_range each = refl
  no_tautology h below (l ∷ c) rise in_range each = grind (arith, no_opposite, no_tautology h (var_of l) c)

  pub all_kept : (cs : List Clause) → list_all (is_clause vars) cs ≡ true → OneEach (length places) cs → length (tidy (map (map made) cs)) ≡ length cs
  all_kept [] e each = refl
  all_kept (c ∷ cs) e each = grind (arith, no_tautology each.0.0 0 c, raw_from, all_kept cs)
