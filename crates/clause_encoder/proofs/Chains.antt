-- Gates of more than four inputs: each inner variable of the chain is settled, and the rest is the gate.
use Rattle.std.proofs.Common.{◌≡◌, ℕ, suc, ◌+◌, ◌-◌, ◌≤◌, Bool, true, not, ◌&&◌, ◌||◌, List, [], ◌∷◌, ◌++◌, map, length, take, drop, get_or, refl, ap, ◌∙◌, arith}
use Rattle.std.specs.Prelude.{if◌then◌else◌}
use Rattle.std.specs.List.{list_all, list_any}
use Rattle.std.proofs.Math.Bool.{and_assoc, or_assoc}
use Rattle.std.proofs.lemmas.Bool.Decides.{nat_tests}
use Rattle.std.proofs.lemmas.List.{length-map, map-append, take-map, get_or-map, take_all, take_more, length-take-le}
use Rattle.std.proofs.lemmas.List.Folds.{list_all-append}
use Rattle.state_rules.specs.Bits.{same_bit, bit_in, has_odd_ones}
use Rattle.state_rules.specs.Assignments.{Assignment}
use Rattle.device_model.specs.declared.gates.Rule.{Rule}
use Rattle.device_model.specs.declared.gates.Rule.TheVariants.{Gate as OfGate, Table as OfTable}
use Rattle.device_model.specs.declared.gates.Gate.{Gate}
use Rattle.device_model.specs.declared.gates.Reduction.{Reduction}
use Rattle.device_model.specs.declared.gates.Reduction.TheVariants.{AllOnes, AnyOne, OddOnes}
use Rattle.device_model.specs.TruthTable.{TruthTable}
use Rattle.device_model.specs.Devices.{gate_allows, allows, takes_ports}
use Rattle.device_model.specs.Gates.{takes, reduced, gate_value}
use Rattle.clause_encoder.specs.Clauses.{all_hold}
use Rattle.clause_encoder.specs.Encoding.{step_clauses, chain_clauses, wide_clauses, is_wide, any_gate_clauses, inner_count, raw_clauses}
use Rattle.clause_encoder.proofs.RowBits.{AllPositive, count-cons}
use Rattle.clause_encoder.proofs.PartClauses.{gate-holds, table-holds, AllPositive-take, AllPositive-at}
use Rattle.clause_encoder.proofs.Settled.{has_bits, Settles}

-- ---- one step

-- the value of an inner variable
abbrev pub step_value : Reduction → Bool → Bool → Bool
step_value AllOnes b c = b && c
step_value AnyOne b c = b || c
step_value OddOnes b c = not (same_bit b c)

module _ (a : Assignment) (z before x : ℕ) (hz : 1 ≤ z) (hb : 1 ≤ before) (hx : 1 ≤ x) where
  step-holds : (reduction : Reduction) → all_hold a (step_clauses reduction z before x) ≡ same_bit (step_value reduction (a before) (a x)) (a z)
  step-holds reduction = grind arith

-- ---- the value of two inputs replaces both

odd-two : (b c : Bool) (rest : List Bool) → has_odd_ones (not (same_bit b c) ∷ rest) ≡ has_odd_ones (b ∷ c ∷ rest)
odd-two b c rest = grind (arith, nat_tests, count-cons (not (same_bit b c)) rest, count-cons b (c ∷ rest), count-cons c rest)

step-stands : (reduction : Reduction) (b c : Bool) (rest : List Bool) → reduced reduction (step_value reduction b c ∷ rest) ≡ reduced reduction (b ∷ c ∷ rest)
step-stands AllOnes b c rest = and_assoc b c (list_all (λ b. b) rest)
step-stands AnyOne b c rest = or_assoc b c (list_any (λ b. b) rest)
step-stands OddOnes b c rest = odd-two b c rest

-- ---- the chain

-- the bits of the inner variables, from the bit before them and those of the inputs
abbrev pub chain_bits : Reduction → Bool → List Bool → List Bool
chain_bits reduction b [] = []
chain_bits reduction b (c ∷ bits) = step_value reduction b c ∷ chain_bits reduction (step_value reduction b c) bits

-- the last of them
abbrev pub chain_end : Reduction → Bool → List Bool → Bool
chain_end reduction b [] = b
chain_end reduction b (c ∷ bits) = chain_end reduction (step_value reduction b c) bits

pub length-chain_bits : (reduction : Reduction) (b : Bool) (bits : List Bool) → length (chain_bits reduction b bits) ≡ length bits
length-chain_bits reduction b [] = refl
length-chain_bits reduction b (c ∷ bits) = ap suc (length-chain_bits reduction (step_value reduction b c) bits)

-- a settled bit may replace the variable
settled : (b c : Bool) (f : Bool → Bool) → (same_bit b c && f c) ≡ (same_bit b c && f b)
settled b c f = grind arith

-- whether the output is `value` if the gate is ok
abbrev output_is : Assignment → ℕ → ℕ → Bool → Bool
output_is a h y value = not (a h) || same_bit (a y) value

module _ (a : Assignment) (gate : Gate) (h last y : ℕ) (hh : 1 ≤ h) (hl : 1 ≤ last) (hy : 1 ≤ y) where
  chain-settles : (xs : List ℕ) (z before : ℕ) → 1 ≤ z → 1 ≤ before → AllPositive xs
      → Settles a z (chain_clauses gate h last y z before xs) (chain_bits gate.reduction (a before) (map a xs))
      (output_is a h y (gate_value gate (chain_end gate.reduction (a before) (map a xs) ∷ a last ∷ [])))
  chain-settles [] z before hz hb hs = gate-holds a h (before ∷ last ∷ []) y hh hy (hb, (hl, tt)) gate
  chain-settles (x ∷ xs) z before hz hb hs = grind (arith, chain-settles xs (z + 1) z (omega arith) hz hs.1, list_all-append, step-holds, settled, has_bits, and_assoc)

-- the end of the chain and the last input give what all inputs give
chain_end-reduced : (reduction : Reduction) (bits : List Bool) (b c : Bool)
    → reduced reduction (chain_end reduction b bits ∷ c ∷ []) ≡ reduced reduction (b ∷ (bits ++ c ∷ []))
chain_end-reduced reduction [] b c = refl
chain_end-reduced reduction (d ∷ bits) b c = chain_end-reduced reduction bits (step_value reduction b d) c ∙ step-stands reduction b d (bits ++ c ∷ [])

-- a list by its first item, those between, and its last
ends : (xs : List ℕ) → 2 ≤ length xs → get_or xs 0 0 ∷ (take (length xs - 1 - 1) (drop 1 xs) ++ get_or xs (length xs - 1) 0 ∷ []) ≡ xs
ends xs long = grind (arith, take_more, take_all)

-- the bits of the inner variables of a gate of more than four inputs
abbrev pub wide_bits : Reduction → List Bool → List Bool
wide_bits reduction bits = chain_bits reduction (bit_in bits 0) (take (length bits - 1 - 1) (drop 1 bits))

module _ (a : Assignment) (gate : Gate) (h z : ℕ) (xs : List ℕ) (y : ℕ) (hh : 1 ≤ h) (hz : 1 ≤ z) (hy : 1 ≤ y) (hs : AllPositive xs) where
  wide-settles : 5 ≤ length xs → Settles a z (wide_clauses gate h z xs y) (wide_bits gate.reduction (map a xs)) (output_is a h y (gate_value gate (map a xs)))
  wide-settles wide = grind (arith, chain-settles, AllPositive-at, AllPositive-take, take-map, length-map, chain_end-reduced, map-append, ends)

-- ---- a gate of any width

-- the bits of the inner variables of a gate
abbrev pub gate_bits : Reduction → List Bool → List Bool
gate_bits reduction bits = if is_wide (length bits) then wide_bits reduction bits else []

pub any_gate-settles : (a : Assignment) (gate : Gate) (h z : ℕ) (xs : List ℕ) (y : ℕ) → 1 ≤ h → 1 ≤ z → 1 ≤ y → AllPositive xs
    → Settles a z (any_gate_clauses gate h z xs y) (gate_bits gate.reduction (map a xs)) (output_is a h y (gate_value gate (map a xs)))
any_gate-settles a gate h z xs y hh hz hy hs = grind (arith, length-map, wide-settles, gate-holds)

-- ---- their number

length-gate_bits : (reduction : Reduction) (bits : List Bool) (ports : ℕ) → length bits ≡ ports - 1
    → length (gate_bits reduction bits) ≡ (if is_wide (ports - 1) then ports - 3 else 0)
length-gate_bits reduction bits ports long = grind (arith, length-chain_bits, length-take-le)

-- the bits of the inner variables of a part, from those of its ports
abbrev pub inner_bits : Rule → List Bool → List Bool
inner_bits (OfTable t) row = []
inner_bits (OfGate gate) row = gate_bits gate.reduction (take (length row - 1) row)

pub length-inner_bits : (rule : Rule) (row : List Bool) → length (inner_bits rule row) ≡ inner_count rule (length row)
length-inner_bits rule row = grind (arith, length-gate_bits, length-take-le)

-- ---- a part of any rule

-- the last port of a gate is its output
ports-settle : (a : Assignment) (gate : Gate) (h z : ℕ) (ports : List ℕ) → 1 ≤ h → 1 ≤ z → AllPositive ports → takes gate (length ports - 1) ≡ true
    → Settles a z (any_gate_clauses gate h z (take (length ports - 1) ports) (get_or ports (length ports - 1) 0))
    (gate_bits gate.reduction (take (length (map a ports) - 1) (map a ports))) (gate_allows gate (a h) (map a ports))
ports-settle a gate h z ports hh hz hs e = grind (arith, any_gate-settles, AllPositive-at, AllPositive-take, take-map, length-map, get_or-map)

-- The clauses of a part settle its inner variables, and the rest is true exactly if the part allows the bits of its ports.
pub raw-settles : (a : Assignment) (tables : List TruthTable) (rule : Rule) (h z : ℕ) (ports : List ℕ) → 1 ≤ h → 1 ≤ z → AllPositive ports
    → takes_ports tables rule (length ports) ≡ true
    → Settles a z (raw_clauses tables rule h z ports) (inner_bits rule (map a ports)) (allows tables rule (a h) (map a ports))
raw-settles a tables rule h z ports hh hz hs e = grind (arith, table-holds, ports-settle)
