-- The clauses of a device: each passes `is_clause`, and together they mean what fits.
use Rattle.std.proofs.Common.{◌≡◌, ℕ, suc, ◌+◌, ◌-◌, ◌<◌, ◌≤◌, Bool, true, false, List, [], ◌∷◌, ◌++◌, map, length, get_or, refl, ap, sym, ◌∙◌, subst, arith}
use Rattle.std.specs.Prelude.{nat_lt}
use Rattle.std.specs.List.{list_any, list_all}
use Rattle.std.proofs.lemmas.List.{length-append, length-map, get_or_append_left, get_or-append_right}
use Rattle.state_rules.specs.Bits.{bit_in, lists_of_bits}
use Rattle.state_rules.specs.Assignments.{Assignment, assignment}
use Rattle.state_rules.proofs.Members.{any_same}
use Rattle.device_model.specs.declared.component.Component.{Component}
use Rattle.device_model.specs.Gates.{rule}
use Rattle.device_model.specs.Devices.{Device, IsDevice, parts_fit, fits, takes_ports, has_arity, has_wires}
use Rattle.clause_encoder.specs.Clauses.{Clause, all_hold, is_clause}
use Rattle.clause_encoder.specs.Encoding.{inner_count, wire_variable, first_inner, inner_vars, clauses_from, all_clauses, clause_list, tidy, Describes}
use Rattle.clause_encoder.proofs.Literals.{AllIn, AllRaw, AllRaw-append, all_hold-tidy, are_clauses-tidy}
use Rattle.clause_encoder.proofs.MentionedVariables.{Of, OfEach, Variables, Of-raw}
use Rattle.clause_encoder.proofs.RowBits.{AllPositive}
use Rattle.clause_encoder.proofs.Settled.{Settles, Settles-append, some-hold}
use Rattle.clause_encoder.proofs.Chains.{inner_bits, length-inner_bits, raw-settles}

-- ---- raw clauses have literals, with variables in range

-- a variable is from 1 to `vars`
abbrev InRange : ℕ → ℕ → Type 0
InRange vars v = (1 ≤ v) × (v ≤ vars)

positive : (vars : ℕ) (vs : List ℕ) → Variables (InRange vars) vs → AllPositive vs
positive vars [] h = tt
positive vars (v ∷ vs) h = (h.0.0, positive vars vs h.1)

more : (vars most : ℕ) (vs : List ℕ) → vars ≤ most → Variables (InRange vars) vs → Variables (InRange most) vs
more vars most [] le h = tt
more vars most (v ∷ vs) le h = ((h.0.0, omega (arith, h.0.1)), more vars most vs le h.1)

all_in : (vars : ℕ) (c : Clause) → Of (InRange vars) c → AllIn vars c
all_in vars [] h = tt
all_in vars (l ∷ c) h = (h.0.0, h.0.1, all_in vars c h.1)

all_raw : (vars : ℕ) (cs : List Clause) → OfEach (InRange vars) cs → AllRaw vars cs
all_raw vars [] h = tt
all_raw vars (c ∷ cs) h = (h.0, all_in vars c h.1, all_raw vars cs h.2)

-- ---- parts

wires-in : (device : Device) (ports : List ℕ) → list_all (λ port. nat_lt port (length device.wires)) ports ≡ true
    → Variables (InRange (length device.parts + length device.wires)) (map (wire_variable device) ports)
wires-in device [] e = tt
wires-in device (port ∷ ports) e = grind (arith, wires-in device ports)

-- the number of ports, as the part's kind takes it
arity-at : (device : Device) (part : Component) → has_arity device.tables part ≡ true → takes_ports device.tables (rule part.kind) (length (map (wire_variable device) part.ports)) ≡ true
arity-at device part e = ap (takes_ports device.tables (rule part.kind)) (length-map part.ports (wire_variable device)) ∙ e

module _ (device : Device) (vars : ℕ) (enough : length device.parts + length device.wires ≤ vars) where
  AllRaw-parts : (h z : ℕ) (parts : List Component) → 1 ≤ h → h + length parts ≤ length device.parts + 1 → 1 ≤ z → z + inner_vars parts ≤ vars + 1
      → list_all (has_arity device.tables) parts ≡ true → list_all (has_wires (length device.wires)) parts ≡ true
      → AllRaw vars (clauses_from device h z parts)
  AllRaw-parts h z [] hh hm hz zm arities joined = tt
  AllRaw-parts h z (part ∷ parts) hh hm hz zm arities joined =
      let ports = map (wire_variable device) part.ports in
      let raw = Of-raw (InRange vars) h (hh, omega arith) device.tables (rule part.kind) z ports (λ v le lt. (omega arith, omega (arith, ap (inner_count (rule part.kind)) (length-map part.ports (wire_variable device))))) in
      grind (arith, raw, all_raw, AllRaw-append, more, wires-in, arity-at, AllRaw-parts (h + 1) (z + inner_count (rule part.kind) (length part.ports)) parts)

AllRaw-device : (device : Device) → IsDevice device → AllRaw (length device.parts + length device.wires + inner_vars device.parts) (all_clauses device)
AllRaw-device device d = grind (arith, AllRaw-parts)

pub are_clauses : (device : Device) → IsDevice device
    → list_all (is_clause (length device.parts + length device.wires + inner_vars device.parts)) (tidy (all_clauses device)) ≡ true
are_clauses device d = are_clauses-tidy (length device.parts + length device.wires + inner_vars device.parts) (all_clauses device) (AllRaw-device device d)

-- ---- what the clauses mean

-- the bits of the inner variables of parts
abbrev part_bits : List Component → List Bool → List Bool
part_bits [] wires = []
part_bits (part ∷ parts) wires = inner_bits (rule part.kind) (map (bit_in wires) part.ports) ++ part_bits parts wires

length-bits : (part : Component) (wires : List Bool) → length (inner_bits (rule part.kind) (map (bit_in wires) part.ports)) ≡ inner_count (rule part.kind) (length part.ports)
length-bits part wires = length-inner_bits (rule part.kind) (map (bit_in wires) part.ports) ∙ ap (inner_count (rule part.kind)) (length-map part.ports (bit_in wires))

length-part_bits : (parts : List Component) (wires : List Bool) → length (part_bits parts wires) ≡ inner_vars parts
length-part_bits [] wires = refl
length-part_bits (part ∷ parts) wires = grind (arith, length-part_bits parts wires, length-append, inner_bits, length-bits)

module _ (device : Device) (a : Assignment) (wires : List Bool) (wire_is : (w : ℕ) → w < length device.wires → a (wire_variable device w) ≡ bit_in wires w) where
  ports-are : (ports : List ℕ) → list_all (λ port. nat_lt port (length device.wires)) ports ≡ true → map a (map (wire_variable device) ports) ≡ map (bit_in wires) ports
  ports-are [] e = refl
  ports-are (port ∷ ports) e = grind (arith, ports-are ports)

  parts-settle : (h z : ℕ) (parts : List Component) (state : List Bool) → 1 ≤ h → 1 ≤ z → length state ≡ length parts
      → ((k : ℕ) → k < length parts → a (h + k) ≡ get_or state k false)
      → list_all (has_arity device.tables) parts ≡ true → list_all (has_wires (length device.wires)) parts ≡ true
      → Settles a z (clauses_from device h z parts) (part_bits parts wires) (parts_fit device.tables parts state wires)
  parts-settle h z [] state hh hz long bits arities joined = refl
  parts-settle h z (part ∷ parts) [] hh hz long bits arities joined = absurd (omega arith)
  parts-settle h z (part ∷ parts) (ok ∷ state) hh hz long bits arities joined =
      let rest = parts-settle (h + 1) (z + inner_count (rule part.kind) (length part.ports)) parts state (omega arith) (omega arith) (omega arith) (λ k lt. grind (arith, bits (suc k))) in
      grind (arith, rest, bits 0, raw-settles, positive, wires-in, arity-at, ports-are, Settles-append, length-bits)

pub describes : (device : Device) → IsDevice device → Describes (clause_list device) device
describes device d state wires long wide =
    (λ i. list_any (λ inner. all_hold (assignment (front ++ inner)) (tidy (all_clauses device))) (lists_of_bits (counted i)))
    ∙ any_same (λ inner. all_hold (assignment (front ++ inner)) (tidy (all_clauses device))) (λ inner. all_hold (assignment (front ++ inner)) (all_clauses device)) (lists_of_bits (length bits))
    (λ inner _. all_hold-tidy (assignment (front ++ inner)) vars (all_clauses device) (AllRaw-device device d))
    ∙ some-hold (all_clauses device) bits front (fits device state wires) settles where
      front : List Bool
      front = state ++ wires

      vars : ℕ
      vars = length device.parts + length device.wires + inner_vars device.parts

      bits : List Bool
      bits = part_bits device.parts wires

      in_front : length front ≡ length device.parts + length device.wires
      in_front = omega (arith, length-append state wires)

      counted : vars - (length device.parts + length device.wires) ≡ length bits
      counted = omega (arith, length-part_bits device.parts wires)

      settles : (inner : List Bool) → Settles (assignment (front ++ inner)) (length front + 1) (all_clauses device) bits (fits device state wires)
      settles inner = subst (λ n. Settles (assignment (front ++ inner)) (n + 1) (all_clauses device) bits (fits device state wires)) (sym in_front)
          (parts-settle device (assignment (front ++ inner)) wires
          (λ w lt. grind (arith, get_or_append_left, get_or-append_right, in_front)) 1 (first_inner device) device.parts state (omega arith) (omega arith) long
          (λ k lt. grind (arith, get_or_append_left, in_front)) d.arities d.joined)
