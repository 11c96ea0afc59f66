-- Clauses written one after the other: what a step of a loop adds to the clauses before it.
use Rattle.std.proofs.Common.{◌≡◌, ℕ, zero, suc, ◌+◌, ◌-◌, ◌*◌, ◌/◌, ◌%◌, ◌^◌, ◌<◌, ◌≤◌, Bool, true, false, not, cond, List, [], ◌∷◌, ◌++◌, map, length, take, drop, get_or, ℤ, pos, Some, ap, sym, ◌∙◌, arith, append_assoc, w32, to_z, of_z, FitsSigned}
use Rattle.std.specs.List.{filter, range_with_len}
use Rattle.std.proofs.lemmas.List.{append-nil, drop_more, drop_all, take_more, length-map, get_or-map}
use Rattle.std.specs.Prelude.{◌==◌, slice_get}
use Rattle.std.proofs.Math.Pow.{pow_mono}
use Rattle.std.proofs.lemmas.Bool.{eqb-true, ltb-true}
use Rattle.std.proofs.lemmas.Bool.Decides.{nat_tests}
use Rattle.std.proofs.lemmas.Int.{to_z-of_z}
use Rattle.state_rules.proofs.Lists.{list_all-at}
use Rattle.device_model.specs.TruthTable.{TruthTable, is_table}
use Rattle.device_model.specs.declared.gates.Gate.{Gate}
use Rattle.device_model.specs.declared.gates.Reduction.{Reduction}
use Rattle.device_model.specs.Gates.{rule}
use Rattle.device_model.specs.declared.component.Component.{Component}
use Rattle.device_model.specs.Devices.{Device, IsDevice, rows_take, takes_ports}
use Rattle.clause_encoder.specs.Clauses.{Clause, literal}
use Rattle.clause_encoder.specs.Encoding.{tidy, and_clauses, row_bits, blocking_literals, step_clauses, chain_clauses, raw_clauses, inner_count, inner_vars, first_inner, clauses_from, wire_variable}
use Rattle.clause_encoder.proofs.Literals.{tidy-append}
use Rattle.clause_encoder.proofs.RowBits.{row_bits-cons, has_bit-zero}
use Rattle.clause_encoder.proofs.PartClauses.{and_clauses-literals}

module _ (now next start : List Clause) where
  -- some are written, and some are left
  pub written : (front rest : List Clause) → next ≡ now ++ tidy front → now ++ tidy (front ++ rest) ≡ start → next ++ tidy rest ≡ start
  written front rest e h = ap (λ w. w ++ tidy rest) e ∙ append_assoc now (tidy front) (tidy rest) ∙ ap (λ c. now ++ c) (sym (tidy-append front rest)) ∙ h

  pub item-written : {A : Type 0} (f : A → Clause) (xs : List A) (i : ℕ) (d : A) → i < length xs
      → next ≡ now ++ tidy (f (get_or xs i d) ∷ []) → now ++ tidy (map f (drop i xs)) ≡ start → next ++ tidy (map f (drop (i + 1) xs)) ≡ start
  item-written f xs i d lt e h = written (f (get_or xs i d) ∷ []) (map f (drop (i + 1) xs)) e (ap (λ ys. now ++ tidy (map f ys)) (sym (drop_more xs i d lt)) ∙ h)

  rows-from : (r n : ℕ) → r < n → range_with_len r (n - r) ≡ r ∷ range_with_len (r + 1) (n - (r + 1))
  rows-from r n lt = grind (arith, nat_tests)

  pub row-written : (f : ℕ → Clause) (r n : ℕ) → r < n → next ≡ now ++ tidy (f r ∷ [])
      → now ++ tidy (map f (range_with_len r (n - r))) ≡ start → next ++ tidy (map f (range_with_len (r + 1) (n - (r + 1)))) ≡ start
  row-written f r n lt e h = written (f r ∷ []) (map f (range_with_len (r + 1) (n - (r + 1)))) e (ap (λ rs. now ++ tidy (map f rs)) (sym (rows-from r n lt)) ∙ h)

  pub kept-more : (f : ℕ → Clause) (keep : ℕ → Bool) (r n : ℕ) → r < n → next ≡ now ++ tidy (map f (cond (keep r) (r ∷ []) []))
      → now ++ tidy (map f (filter keep (range_with_len r (n - r)))) ≡ start → next ++ tidy (map f (filter keep (range_with_len (r + 1) (n - (r + 1))))) ≡ start
  kept-more f keep r n lt e h = grind (arith, nat_tests, rows-from r n lt, append_assoc, append-nil)

-- three clauses, one after the other
pub three-written : (start one two three : List Clause) (c d e : Clause) → one ≡ start ++ tidy (c ∷ []) → two ≡ one ++ tidy (d ∷ []) → three ≡ two ++ tidy (e ∷ [])
    → three ≡ start ++ tidy (c ∷ d ∷ e ∷ [])
three-written start one two three c d e f g h = grind (arith, append_assoc, tidy-append)

-- nothing is left
pub items-written : {A : Type 0} (now start : List Clause) (f : A → Clause) (xs : List A) (i : ℕ) → length xs ≤ i → now ++ tidy (map f (drop i xs)) ≡ start → now ≡ start
items-written now start f xs i past h = sym (append-nil now) ∙ ap (λ ys. now ++ tidy (map f ys)) (sym (drop_all i xs past)) ∙ h

-- ---- literals as they are passed

literal-fits : (b : Bool) (v : ℕ) → v < 2 ^ 29 → FitsSigned w32 (literal b v)
literal-fits b v h = grind arith

pub passed : (x : ℤ) (b : Bool) (v : ℕ) → v < 2 ^ 29 → x ≡ literal b v → to_z w32 (of_z w32 x) ≡ literal b v
passed x b v h e = ap (λ y. to_z w32 (of_z w32 y)) e ∙ to_z-of_z w32 (literal b v) (literal-fits b v h)

-- ---- conjunctions

pub and-all : (h y : ℕ) (t s : Bool) (xs : List ℕ) (i : ℕ) (now next start : List Clause) (last : Clause) → length xs ≤ i
    → last ≡ literal false h ∷ literal t y ∷ map (literal (not s)) xs
    → now ++ tidy (map (λ x. literal false h ∷ literal (not t) y ∷ literal s x ∷ []) (drop i xs)) ≡ start ++ tidy (map (λ x. literal false h ∷ literal (not t) y ∷ literal s x ∷ []) xs)
    → next ≡ now ++ tidy (last ∷ []) → next ≡ start ++ tidy (and_clauses (pos h) (literal t y) (map (literal s) xs))
and-all h y t s xs i now next start last past e inv f =
    let front = λ (x : ℕ). literal false h ∷ literal (not t) y ∷ literal s x ∷ [] in
    let done = items-written now (start ++ tidy (map front xs)) front xs i past inv in
    grind (arith, done, and_clauses-literals h y t s xs, append_assoc, tidy-append (map front xs) (last ∷ []))

-- ---- rows

-- the literal of one more variable
pub bit-written : (vs : List ℕ) (i rest : ℕ) (now next start : List ℤ) (l : ℤ) → i < length vs → l ≡ literal (rest % 2 == 0) (get_or vs i 0)
    → next ≡ now ++ l ∷ [] → now ++ blocking_literals (drop i vs) (row_bits rest (drop i vs)) ≡ start
    → next ++ blocking_literals (drop (i + 1) vs) (row_bits (rest / 2) (drop (i + 1) vs)) ≡ start
bit-written vs i rest now next start l lt e f inv = grind (arith, nat_tests, drop_more vs i 0 lt, row_bits-cons rest (get_or vs i 0) (drop (i + 1) vs), has_bit-zero rest, append_assoc)

-- what `1 << n` is
pub shifted : (n : ℕ) → n ≤ 8 → 1 * 2 ^ n % 4294967296 ≡ 2 ^ n
shifted n h = let most : 2 ^ n ≤ 2 ^ 8 = pow_mono h in omega arith

pub shifted_far : (n : ℕ) → n ≤ 8 → 1 * 2 ^ n % 18446744073709551616 ≡ 2 ^ n
shifted_far n h = let most : 2 ^ n ≤ 2 ^ 8 = pow_mono h in omega arith

-- ---- tables

pub record IsTable (rows : TruthTable) : Type 0 where
  pub few : rows.ports ≤ 6
  pub ok : rows.ok < 2 ^ (2 ^ rows.ports)
  pub bad : rows.bad < 2 ^ (2 ^ rows.ports)

pub IsTable-from : (rows : TruthTable) → is_table rows ≡ true → IsTable rows
IsTable-from rows e = grind (arith, nat_tests)

-- the rows of a table are those below `1 << ports`
pub row_below : (rows : TruthTable) (row ports : ℕ) → is_table rows ≡ true → ports ≡ rows.ports → row < 1 * 2 ^ ports % 4294967296 → row < 2 ^ rows.ports
row_below rows row ports e f lt = grind (arith, nat_tests)

-- the table of a part that has one
pub taken : (tables : List TruthTable) (t ports : ℕ) (rows : TruthTable) → rows_take (slice_get tables t) ports ≡ true → rows ≡ get_or tables t rows
    → (slice_get tables t ≡ Some rows) × (ports ≡ rows.ports)
taken [] t ports rows e f = grind arith
taken (r ∷ tables) zero ports rows e f = (ap Some (sym f), omega (arith, eqb-true r.ports ports e, ap (λ (r : TruthTable). r.ports) f))
taken (r ∷ tables) (suc t) ports rows e f = taken tables t ports rows e f

-- ---- parts

-- the first inner variable of a part
abbrev pub inner_at : Device → ℕ → ℕ
inner_at device place = first_inner device + inner_vars (take place device.parts)

inner_vars-append : (parts more : List Component) → inner_vars (parts ++ more) ≡ inner_vars parts + inner_vars more
inner_vars-append [] more = omega arith
inner_vars-append (part ∷ parts) more = omega (arith, inner_vars-append parts more)

pub inner_at-more : (device : Device) (place : ℕ) (part : Component) → place < length device.parts → part ≡ get_or device.parts place part
    → inner_at device (place + 1) ≡ inner_at device place + inner_count (rule part.kind) (length part.ports)
inner_at-more device place part lt is = grind (arith, take_more device.parts place part lt, inner_vars-append)

-- the clauses of a part, and of those after it
pub split-at : (device : Device) (place : ℕ) (part : Component) → place < length device.parts → part ≡ get_or device.parts place part
    → clauses_from device (place + 1) (inner_at device place) (drop place device.parts)
    ≡ raw_clauses device.tables (rule part.kind) (place + 1) (inner_at device place) (map (wire_variable device) part.ports)
    ++ clauses_from device ((place + 1) + 1) (inner_at device (place + 1)) (drop (place + 1) device.parts)
split-at device place part lt is = grind (arith, nat_tests, drop_more, inner_at-more)

-- the clauses of one more part
pub part-written : (device : Device) (place : ℕ) (parts : List Component) (part : Component) (tables : List TruthTable) (h z : ℕ) (ports wires : List ℕ) (now next start : List Clause)
    → parts ≡ device.parts → place < length parts → part ≡ get_or parts place part → tables ≡ device.tables → h ≡ place + 1 → z ≡ inner_at device place
    → ports ≡ map (λ wire. length parts + wire + 1) wires → wires ≡ part.ports
    → next ≡ now ++ tidy (raw_clauses tables (rule part.kind) h z ports)
    → now ++ tidy (clauses_from device (place + 1) (inner_at device place) (drop place device.parts)) ≡ start
    → next ++ tidy (clauses_from device ((place + 1) + 1) (inner_at device (place + 1)) (drop (place + 1) device.parts)) ≡ start
part-written device place parts part tables h z ports wires now next start same lt is t height first p w e inv =
    written now next start (raw_clauses device.tables (rule part.kind) (place + 1) (inner_at device place) (map (wire_variable device) part.ports))
    (clauses_from device ((place + 1) + 1) (inner_at device (place + 1)) (drop (place + 1) device.parts))
    (e ∙ (λ i. now ++ tidy (raw_clauses (t i) (rule part.kind) (height i) (first i) ((p ∙ (λ j. map (λ wire. length (same j) + wire + 1) (w j))) i))))
    (ap (λ cs. now ++ tidy cs) (sym (split-at device place part (omega (arith, ap length same)) (is ∙ ap (λ ps. get_or ps place part) same))) ∙ inv)

-- the first inner variable of the next part
pub inner-next : (device : Device) (place : ℕ) (parts : List Component) (part : Component) (inner next : ℕ) (ports wires : List ℕ)
    → parts ≡ device.parts → place < length parts → part ≡ get_or parts place part → inner ≡ inner_at device place
    → ports ≡ map (λ wire. length parts + wire + 1) wires → wires ≡ part.ports → next ≡ inner + inner_count (rule part.kind) (length ports) → next ≡ inner_at device (place + 1)
inner-next device place parts part inner next ports wires same lt is first p w e = grind (arith, nat_tests, length-map, inner_at-more, same)

-- ---- chains

-- the step of one more input
pub step-written : (gate : Gate) (reduction : Reduction) (h last y z before : ℕ) (xs : List ℕ) (i : ℕ) (now next start : List Clause) → i < length xs
    → reduction ≡ gate.reduction → next ≡ now ++ tidy (step_clauses reduction z before (get_or xs i 0))
    → now ++ tidy (chain_clauses gate h last y z before (drop i xs)) ≡ start
    → next ++ tidy (chain_clauses gate h last y (z + 1) z (drop (i + 1) xs)) ≡ start
step-written gate reduction h last y z before xs i now next start lt is e inv = grind (arith, drop_more xs i 0 lt, append_assoc, tidy-append (step_clauses gate.reduction z before (get_or xs i 0)) (chain_clauses gate h last y (z + 1) z (drop (i + 1) xs)))

-- the variables of wires are small
pub small : (parts : ℕ) (wires ports items : List ℕ) → ports ≡ items → items ≡ map (λ wire. parts + wire + 1) wires → parts ≤ 4096 → ((k d : ℕ) → k < length wires → get_or wires k d < 16384)
    → (k d : ℕ) → k < length ports → get_or ports k d < 2 ^ 29
small parts wires ports items e f few low k d lt =
    let long : length ports ≡ length wires = ap length (e ∙ f) ∙ length-map wires (λ wire. parts + wire + 1) in
    omega (arith, ap (λ ps. get_or ps k d) (e ∙ f), get_or-map (λ wire. parts + wire + 1) wires k d d (omega arith), low k d (omega arith))

-- the wires at the ports of a part
pub low : (device : Device) (parts : List Component) (place : ℕ) (part : Component) (wires : List ℕ) → IsDevice device → parts ≡ device.parts → place < length parts → part ≡ get_or parts place part → wires ≡ part.ports
    → (k d : ℕ) → k < length wires → get_or wires k d < 16384
low device parts place part wires valid same lt is w k d within = grind (arith, nat_tests, same, list_all-at, ltb-true)

-- the number of ports of a part, as its kind takes it
pub arity-taken : (device : Device) (parts : List Component) (place : ℕ) (part : Component) (tables : List TruthTable) (ports : List ℕ) → IsDevice device → parts ≡ device.parts
    → place < length parts → part ≡ get_or parts place part → tables ≡ device.tables → ports ≡ part.ports → takes_ports tables (rule part.kind) (length ports) ≡ true
arity-taken device parts place part tables ports valid same lt is t p = grind (arith, nat_tests, same, list_all-at)
