-- The clauses of a part are true exactly if the part allows the bits of its ports.
use Rattle.std.proofs.Common.{◌≡◌, ℕ, zero, suc, ◌<◌, ◌≤◌, Bool, true, false, not, ◌||◌, List, [], ◌∷◌, ◌++◌, map, length, take, get_or, pos, neg_ℤ, Some, refl, sym, ◌∙◌, arith}
use Rattle.std.specs.Prelude.{nat_le, min}
use Rattle.std.specs.List.{list_any, list_all}
use Rattle.std.proofs.lemmas.Bool.{leb-true, and_parts}
use Rattle.std.proofs.lemmas.List.{length-map}
use Rattle.std.proofs.lemmas.List.Folds.{list_all-append, list_any-append, list_all-map}
use Rattle.state_rules.specs.Bits.{same_bit, row_number, has_odd_ones, has_bit}
use Rattle.state_rules.specs.Assignments.{Assignment}
use Rattle.state_rules.proofs.Bits.{same_bit-swap}
use Rattle.device_model.specs.declared.gates.Gate.{Gate}
use Rattle.device_model.specs.declared.gates.Reduction.{Reduction}
use Rattle.device_model.specs.declared.gates.Reduction.TheVariants.{AllOnes, AnyOne, OddOnes}
use Rattle.device_model.specs.declared.limits.TheConstants.{INPUT_LIMIT}
use Rattle.device_model.specs.TruthTable.{TruthTable}
use Rattle.device_model.specs.Devices.{table_allows}
use Rattle.device_model.specs.Gates.{takes, reduced, gate_value}
use Rattle.clause_encoder.specs.Clauses.{literal, is_true_clause, all_hold}
use Rattle.clause_encoder.specs.Encoding.{parity_clauses, and_clauses, row_bits, rows_of, blocking_literals, row_clause, blocked_rows, table_clauses, reduction_clauses, gate_clauses}
use Rattle.clause_encoder.proofs.Literals.{lit, lit-literal, neg-literal}
use Rattle.clause_encoder.proofs.RowBits.{AllPositive, row_bits-number, row_number-below, blocking_literals-row, all-rows, all-filtered}

-- ---- conjunctions of literals

-- the clauses of a conjunction, without negations
pub and_clauses-literals : (h y : ℕ) (t s : Bool) (xs : List ℕ) → and_clauses (pos h) (literal t y) (map (literal s) xs)
    ≡ map (λ x. literal false h ∷ literal (not t) y ∷ literal s x ∷ []) xs ++ (literal false h ∷ literal t y ∷ map (literal (not s)) xs) ∷ []
and_clauses-literals h y t s xs = λ i. fronts xs i ++ (literal false h ∷ literal t y ∷ negated xs i) ∷ [] where
  fronts : (xs : List ℕ) → map (λ x. neg_ℤ (pos h) ∷ neg_ℤ (literal t y) ∷ x ∷ []) (map (literal s) xs) ≡ map (λ x. literal false h ∷ literal (not t) y ∷ literal s x ∷ []) xs
  fronts [] = refl
  fronts (x ∷ xs) = λ i. (literal false h ∷ neg-literal t y i ∷ literal s x ∷ []) ∷ fronts xs i

  negated : (xs : List ℕ) → map neg_ℤ (map (literal s) xs) ≡ map (literal (not s)) xs
  negated [] = refl
  negated (x ∷ xs) = λ i. neg-literal s x i ∷ negated xs i

module _ (a : Assignment) (h y : ℕ) (t s : Bool) (hh : 1 ≤ h) (hy : 1 ≤ y) where
  fronts-hold : (xs : List ℕ) → AllPositive xs → all_hold a (map (λ x. literal false h ∷ literal (not t) y ∷ literal s x ∷ []) xs)
      ≡ (not (a h) || (not (same_bit t (a y)) || list_all (λ x. same_bit s (a x)) xs))
  fronts-hold [] hs = grind arith
  fronts-hold (x ∷ xs) hs = grind (arith, fronts-hold xs hs.1)

  any-negated : (xs : List ℕ) → AllPositive xs → list_any (lit a) (map (literal (not s)) xs) ≡ not (list_all (λ x. same_bit s (a x)) xs)
  any-negated [] hs = refl
  any-negated (x ∷ xs) hs = grind (arith, lit-literal, any-negated xs hs.1)

  and-holds : (xs : List ℕ) → AllPositive xs → all_hold a (and_clauses (pos h) (literal t y) (map (literal s) xs))
      ≡ (not (a h) || same_bit (same_bit t (a y)) (list_all (λ x. same_bit s (a x)) xs))
  and-holds xs hs = grind (arith, and_clauses-literals, list_all-append, fronts-hold, any-negated)

all_not : (a : Assignment) (xs : List ℕ) → list_all (λ x. not (a x)) xs ≡ not (list_any (λ b. b) (map a xs))
all_not a [] = refl
all_not a (x ∷ xs) = grind (arith, all_not a xs)

all_bits : (a : Assignment) (xs : List ℕ) → list_all (λ x. a x) xs ≡ list_all (λ b. b) (map a xs)
all_bits a xs = sym (list_all-map (λ (b : Bool). b) a xs)

-- ---- the rows of an exclusive or

parity-holds : (a : Assignment) (odd : Bool) (h : ℕ) (xs : List ℕ) (y : ℕ) → 1 ≤ h → 1 ≤ y → AllPositive xs
    → all_hold a (parity_clauses odd h xs y) ≡ (not (a h) || same_bit (a y) (same_bit odd (has_odd_ones (map a xs))))
parity-holds a odd h xs y hh hy hs =
    let value = λ (r : ℕ). same_bit odd (has_odd_ones (row_bits r xs)) in
    let clause = λ (r : ℕ). row_clause h xs y (row_bits r xs) (value r) in
    let rows = all-rows (λ r. is_true_clause a (clause r)) (λ r. not (a h) || same_bit (value r) (a y)) xs (row_number (map a xs)) (row_number-below (map a xs) (length xs) (length-map xs a)) (λ r lt. grind (arith, list_any-append, blocking_literals-row)) in
    grind (arith, list_all-map (is_true_clause a) clause (rows_of xs), rows, row_bits-number (map a xs) xs (length-map xs a), same_bit-swap)

-- ---- the rows of a table

side-holds : (a : Assignment) (ok : Bool) (allowed h : ℕ) (ports : List ℕ) → 1 ≤ h → AllPositive ports
    → all_hold a (blocked_rows ok allowed h ports) ≡ (has_bit allowed (row_number (map a ports)) || same_bit (not ok) (a h))
side-holds a ok allowed h ports hh hs =
    let clause = λ (r : ℕ). literal (not ok) h ∷ blocking_literals ports (row_bits r ports) in
    all-filtered (is_true_clause a) clause (λ r. not (has_bit allowed r)) (rows_of ports)
    ∙ all-rows (λ r. not (not (has_bit allowed r)) || is_true_clause a (clause r)) (λ r. has_bit allowed r || same_bit (not ok) (a h)) ports (row_number (map a ports))
    (row_number-below (map a ports) (length ports) (length-map ports a)) (λ r lt. grind (arith, blocking_literals-row))

pub table-holds : (a : Assignment) (rows : TruthTable) (h : ℕ) (ports : List ℕ) → 1 ≤ h → AllPositive ports
    → all_hold a (table_clauses (Some rows) h ports) ≡ table_allows rows (a h) (map a ports)
table-holds a rows h ports hh hs = grind (arith, list_all-append, side-holds)

-- ---- gates

module _ (a : Assignment) (h : ℕ) (xs : List ℕ) (y : ℕ) (hh : 1 ≤ h) (hy : 1 ≤ y) (hs : AllPositive xs) where
  reduction-holds : (reduction : Reduction) (positive : Bool) → all_hold a (reduction_clauses reduction positive h xs y)
      ≡ (not (a h) || same_bit (a y) (same_bit positive (reduced reduction (map a xs))))
  reduction-holds AllOnes positive = grind (arith, and-holds a h y positive true hh hy xs hs, all_bits a xs)
  reduction-holds AnyOne positive = grind (arith, and-holds a h y (not positive) false hh hy xs hs, all_not a xs)
  reduction-holds OddOnes positive = parity-holds a positive h xs y hh hy hs

  pub gate-holds : (gate : Gate) → all_hold a (gate_clauses gate h xs y) ≡ (not (a h) || same_bit (a y) (gate_value gate (map a xs)))
  gate-holds gate = reduction-holds gate.reduction gate.positive

pub takes-few : (gate : Gate) (n : ℕ) → takes gate n ≡ true → n ≤ INPUT_LIMIT
takes-few gate n e = omega (arith, leb-true n (min gate.most_inputs INPUT_LIMIT) (and_parts (nat_le 1 n) (nat_le n (min gate.most_inputs INPUT_LIMIT)) e).1)

pub AllPositive-take : (n : ℕ) (vs : List ℕ) → AllPositive vs → AllPositive (take n vs)
AllPositive-take zero vs h = tt
AllPositive-take (suc n) [] h = tt
AllPositive-take (suc n) (v ∷ vs) h = (h.0, AllPositive-take n vs h.1)

pub AllPositive-at : (vs : List ℕ) (i : ℕ) → AllPositive vs → i < length vs → 1 ≤ get_or vs i 0
AllPositive-at [] i h lt = absurd (omega arith)
AllPositive-at (v ∷ vs) zero h lt = h.0
AllPositive-at (v ∷ vs) (suc i) h lt = AllPositive-at vs i h.1 (omega arith)
