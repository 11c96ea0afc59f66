-- The number of clauses of a part.
use Rattle.std.proofs.Common.{◌≡◌, ℕ, ◌+◌, ◌-◌, ◌*◌, ◌%◌, ◌^◌, ◌<◌, ◌≤◌, Bool, true, List, [], ◌∷◌, map, length, take, drop, get_or, count_ones, Some, ap, ◌∙◌, arith}
use Rattle.std.specs.Prelude.{if◌then◌else◌}
use Rattle.std.proofs.Math.Pow.{pow_mono}
use Rattle.std.proofs.lemmas.Bool.{lt-ltb}
use Rattle.std.proofs.lemmas.List.{length-append, length-map, length-take-le, length-drop}
use Rattle.std.proofs.lemmas.List.FromFn.{length-map-range_with_len}
use lib.Count.{ones-le}
use Rattle.device_model.specs.declared.gates.Gate.{Gate}
use Rattle.device_model.specs.declared.gates.Reduction.{Reduction}
use Rattle.device_model.specs.declared.gates.Reduction.TheVariants.{OddOnes}
use Rattle.device_model.specs.declared.component.Component.{Component}
use Rattle.device_model.specs.TruthTable.{TruthTable, is_table}
use Rattle.device_model.specs.Devices.{Device}
use Rattle.device_model.specs.Gates.{rule}
use Rattle.clause_encoder.specs.Encoding.{parity_clauses, reduction_clauses, gate_clauses, step_clauses, chain_clauses, wide_clauses, any_gate_clauses, raw_clauses, clauses_from, wire_variable, blocked_rows, table_clauses}
use Rattle.clause_encoder.proofs.RowBits.{others}
use Rattle.clause_encoder.proofs.WrittenClauses.{IsTable-from, shifted_far, inner_at, split-at}

-- ---- tables

-- no more rows are set than there are
pub record Counts (rows : TruthTable) : Type 0 where
  pub few : rows.ports ≤ 6
  pub ok : count_ones rows.ok ≤ 2 ^ rows.ports
  pub bad : count_ones rows.bad ≤ 2 ^ rows.ports
  pub most : 2 ^ rows.ports ≤ 64

pub table-counts : (rows : TruthTable) → is_table rows ≡ true → Counts rows
table-counts rows e = grind (arith, IsTable-from, ones-le, pow_mono {i = rows.ports} {j = 6})

length-side : (ok : Bool) (allowed h : ℕ) (vs : List ℕ) → allowed < 2 ^ (2 ^ length vs) → length (blocked_rows ok allowed h vs) + count_ones allowed ≡ 2 ^ length vs
length-side ok allowed h vs lt = grind (arith, length-map, ok, others)

pub length-table : (rows : TruthTable) (h : ℕ) (vs : List ℕ) → is_table rows ≡ true → length vs ≡ rows.ports
    → length (table_clauses (Some rows) h vs) + count_ones rows.ok + count_ones rows.bad ≡ 2 * 2 ^ rows.ports
length-table rows h vs e long = grind (arith, length-side, length-append)

-- ---- gates

length-rows : (odd : Bool) (h : ℕ) (xs : List ℕ) (y n : ℕ) → length xs ≡ n → length (parity_clauses odd h xs y) ≡ 2 ^ n
length-rows odd h xs y n long = length-map-range_with_len _ 0 (2 ^ length xs) ∙ ap (λ n. 2 ^ n) long

pub length-parity : (gate : Gate) (h : ℕ) (xs : List ℕ) (y inputs : ℕ) → length xs ≡ inputs → inputs ≤ 4 → gate.reduction ≡ OddOnes
    → length (gate_clauses gate h xs y) ≡ 1 * 2 ^ inputs % 18446744073709551616
length-parity gate h xs y inputs long few odd = grind (arith, length-rows, shifted_far)

pub few-rows : (n : ℕ) → n ≤ 4 → 1 * 2 ^ n % 18446744073709551616 ≤ 16
few-rows n h = let most : 2 ^ n ≤ 2 ^ 4 = pow_mono h in omega arith

-- ---- chains

-- the gate at the end of a chain has as many clauses as a step
length-two : (reduction : Reduction) (positive : Bool) (h b l y z c x : ℕ)
    → length (reduction_clauses reduction positive h (b ∷ l ∷ []) y) ≡ length (step_clauses reduction z c x)
length-two reduction positive h b l y z c x = grind arith

module _ (gate : Gate) (h last y n : ℕ) (step : (z b x : ℕ) → length (step_clauses gate.reduction z b x) ≡ n) (two : (b : ℕ) → length (gate_clauses gate h (b ∷ last ∷ []) y) ≡ n) where
  length-chain : (xs : List ℕ) (z before : ℕ) → length (chain_clauses gate h last y z before xs) ≡ n * length xs + n
  length-chain [] z before = omega (arith, two before)
  length-chain (x ∷ xs) z before = grind (arith, length-chain xs (z + 1) z)

pub length-any_gate : (gate : Gate) (inputs n : ℕ) → ((z b x : ℕ) → length (step_clauses gate.reduction z b x) ≡ n) → 5 ≤ inputs → (h z y : ℕ) (xs : List ℕ) → length xs ≡ inputs → length (any_gate_clauses gate h z xs y) ≡ n * (inputs - 1)
length-any_gate gate inputs n step wide h z y xs long =
    let between = take (length xs - 1 - 1) (drop 1 xs) in
    let chain = length-chain gate h (get_or xs (length xs - 1) 0) y n step (λ b. length-two gate.reduction gate.positive h b (get_or xs (length xs - 1) 0) y z z z ∙ step z z z) between z (get_or xs 0 0) in
    let one_less : length between + 1 ≡ inputs - 1 = omega (arith, length-take-le (length xs - 1 - 1) (drop 1 xs), length-drop 1 xs) in
    ap (λ w. length (if w then wide_clauses gate h z xs y else gate_clauses gate h xs y)) (lt-ltb 4 (length xs) (omega arith)) ∙ omega (arith, chain, ap (λ k. n * k) one_less)

-- ---- parts

-- what one more part adds
pub part-counted : (device : Device) (place : ℕ) (parts : List Component) (part : Component) (tables : List TruthTable) (ports count n total : ℕ)
    → parts ≡ device.parts → place < length parts → part ≡ get_or parts place part → tables ≡ device.tables → ports ≡ length part.ports
    → ((h z : ℕ) (vs : List ℕ) → length vs ≡ ports → length (raw_clauses tables (rule part.kind) h z vs) ≡ n)
    → count + length (clauses_from device (place + 1) (inner_at device place) (drop place device.parts)) ≡ total
    → count + n + length (clauses_from device ((place + 1) + 1) (inner_at device (place + 1)) (drop (place + 1) device.parts)) ≡ total
part-counted device place parts part tables ports count n total same lt is t long counts inv =
    let split = split-at device place part (omega (arith, ap length same)) (is ∙ ap (λ ps. get_or ps place part) same) in
    grind (arith, split, counts (place + 1) (inner_at device place) (map (wire_variable device) part.ports), length-append, length-map)
