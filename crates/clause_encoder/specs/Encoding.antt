-- The clauses of a device.
use Rattle.std.specs.Prelude.{◌≡◌, ℕ, ◌+◌, ◌-◌, ◌/◌, ◌^◌, Bool, true, false, not, ◌&&◌, ◌||◌, List, [], ◌∷◌, ◌++◌, map, length, take, drop, Option, Some, None, ℤ, pos, neg_ℤ, Result, Ok, Err, ◌==◌, nat_lt, slice_index_or, slice_get, if◌then◌else◌}
use Rattle.std.specs.List.{filter, list_any, range_with_len}
use Rattle.state_rules.specs.Bits.{has_odd_ones, same_bit, lists_of_bits, has_bit}
use Rattle.state_rules.specs.Assignments.{assignment}
use Rattle.device_model.specs.declared.gates.Rule.{Rule}
use Rattle.device_model.specs.declared.gates.Rule.TheVariants.{Gate as OfGate, Table as OfTable}
use Rattle.device_model.specs.declared.gates.Gate.{Gate}
use Rattle.device_model.specs.declared.gates.Reduction.{Reduction}
use Rattle.device_model.specs.declared.gates.Reduction.TheVariants.{AllOnes, AnyOne, OddOnes}
use Rattle.device_model.specs.declared.component.Component.{Component}
use Rattle.device_model.specs.declared.limits.TheConstants.{PART_LIMIT, WIRE_LIMIT}
use Rattle.device_model.specs.TruthTable.{TruthTable}
use Rattle.device_model.specs.Gates.{rule}
use Rattle.device_model.specs.Devices.{Device, fits}
use Rattle.clause_encoder.specs.declared.limits.TheConstants.{CLAUSE_LIMIT, NARROW_LIMIT}
use Rattle.clause_encoder.specs.declared.encoding.EncodeError.{EncodeError}
use Rattle.clause_encoder.specs.declared.encoding.EncodeError.TheVariants.{TooManyClauses, Memory}
use Rattle.clause_encoder.specs.Clauses.{var_of, is_positive, literal, Clause, ClauseList, all_hold}

-- ---- tidy clauses

abbrev pub same_literal : ℤ → ℤ → Bool
same_literal a b = (var_of a == var_of b) && same_bit (is_positive a) (is_positive b)

-- a clause with a literal in its place by variable, once
abbrev pub with_literal : ℤ → Clause → Clause
with_literal a [] = a ∷ []
with_literal a (b ∷ clause) =
    if same_literal a b then b ∷ clause
    else if nat_lt (var_of b) (var_of a) then b ∷ with_literal a clause
    else a ∷ b ∷ clause

abbrev pub sorted : Clause → Clause
sorted [] = []
sorted (a ∷ clause) = with_literal a (sorted clause)

-- whether a clause has both literals of a variable
abbrev pub is_tautology : Clause → Bool
is_tautology [] = false
is_tautology (a ∷ clause) = list_any (same_literal (neg_ℤ a)) clause || is_tautology clause

-- the clauses, each sorted, without those that have both literals of a variable
abbrev pub tidy : List Clause → List Clause
tidy clauses = map sorted (filter (λ c. not (is_tautology c)) clauses)

-- ---- the clauses of a part, from the variables of its health and of its ports

-- if the part is ok, y is the conjunction of the literals xs
abbrev pub and_clauses : ℤ → ℤ → List ℤ → List Clause
and_clauses ok y xs = map (λ x. neg_ℤ ok ∷ neg_ℤ y ∷ x ∷ []) xs ++ (neg_ℤ ok ∷ y ∷ map neg_ℤ xs) ∷ []

-- the bits of row number r, one for each variable, the lowest first
abbrev pub row_bits : ℕ → List ℕ → List Bool
row_bits r vs = map (has_bit r) (range_with_len 0 (length vs))

-- the numbers of all rows, rising
abbrev pub rows_of : List ℕ → List ℕ
rows_of vs = range_with_len 0 (2 ^ length vs)

-- the literals that are false in a row
abbrev pub blocking_literals : List ℕ → List Bool → Clause
blocking_literals [] bits = []
blocking_literals (v ∷ vs) [] = []
blocking_literals (v ∷ vs) (b ∷ bits) = literal (not b) v ∷ blocking_literals vs bits

-- if the part is ok and its inputs have this row, the output has this bit
abbrev pub row_clause : ℕ → List ℕ → ℕ → List Bool → Bool → Clause
row_clause h xs y row value = literal false h ∷ (blocking_literals xs row ++ literal value y ∷ [])

-- if the part is ok, the output is 1 exactly if the number of ones is odd (if `odd`) or even (if not)
abbrev pub parity_clauses : Bool → ℕ → List ℕ → ℕ → List Clause
parity_clauses odd h xs y = map (λ r. row_clause h xs y (row_bits r xs) (same_bit odd (has_odd_ones (row_bits r xs)))) (rows_of xs)

-- in this mode, the ports have no row outside `allowed`
abbrev pub blocked_rows : Bool → ℕ → ℕ → List ℕ → List Clause
blocked_rows ok allowed h ports =
    map (λ r. literal (not ok) h ∷ blocking_literals ports (row_bits r ports)) (filter (λ r. not (has_bit allowed r)) (rows_of ports))

abbrev pub table_clauses : Option TruthTable → ℕ → List ℕ → List Clause
table_clauses None h ports = []
table_clauses (Some rows) h ports = blocked_rows true rows.ok h ports ++ blocked_rows false rows.bad h ports

-- If the part is ok, the output is the answer about the inputs, or its opposite. A disjunction is the opposite
-- of the conjunction of the opposite inputs.
abbrev pub reduction_clauses : Reduction → Bool → ℕ → List ℕ → ℕ → List Clause
reduction_clauses AllOnes positive h xs y = and_clauses (pos h) (literal positive y) (map (literal true) xs)
reduction_clauses AnyOne positive h xs y = and_clauses (pos h) (literal (not positive) y) (map (literal false) xs)
reduction_clauses OddOnes positive h xs y = parity_clauses positive h xs y

-- the clauses of a gate, from the variables of its health, inputs and output
abbrev pub gate_clauses : Gate → ℕ → List ℕ → ℕ → List Clause
gate_clauses gate h xs y = reduction_clauses gate.reduction gate.positive h xs y

-- ---- a gate with more inputs than the limit: a chain of inner variables

-- z is the conjunction of a and b (if `as_is`) or their disjunction (if not)
abbrev pub and_step : Bool → ℕ → ℕ → ℕ → List Clause
and_step as_is z a b =
    (literal (not as_is) z ∷ literal as_is a ∷ [])
    ∷ (literal (not as_is) z ∷ literal as_is b ∷ [])
    ∷ (literal as_is z ∷ literal (not as_is) a ∷ literal (not as_is) b ∷ []) ∷ []

-- z is 1 exactly if a and b differ
abbrev pub xor_step : ℕ → ℕ → ℕ → List Clause
xor_step z a b =
    (literal false z ∷ literal true a ∷ literal true b ∷ [])
    ∷ (literal false z ∷ literal false a ∷ literal false b ∷ [])
    ∷ (literal true z ∷ literal true a ∷ literal false b ∷ [])
    ∷ (literal true z ∷ literal false a ∷ literal true b ∷ []) ∷ []

-- the clauses that define an inner variable by the one before it and the next input
abbrev pub step_clauses : Reduction → ℕ → ℕ → ℕ → List Clause
step_clauses AllOnes z a b = and_step true z a b
step_clauses AnyOne z a b = and_step false z a b
step_clauses OddOnes z a b = xor_step z a b

-- A step for each of these inputs, with inner variables from z on, then the gate itself, over the result of the last step
-- and the last input.
abbrev pub chain_clauses : Gate → ℕ → ℕ → ℕ → ℕ → ℕ → List ℕ → List Clause
chain_clauses gate h last y z before [] = gate_clauses gate h (before ∷ last ∷ []) y
chain_clauses gate h last y z before (x ∷ xs) =
    step_clauses gate.reduction z before x ++ chain_clauses gate h last y (z + 1) z xs

-- The chain begins with the first input and has a step for each between it and the last.
abbrev pub wide_clauses : Gate → ℕ → ℕ → List ℕ → ℕ → List Clause
wide_clauses gate h z xs y =
    let last = length xs - 1 in
    chain_clauses gate h (slice_index_or xs last 0) y z (slice_index_or xs 0 0) (take (last - 1) (drop 1 xs))

-- whether a gate of `inputs` inputs has a chain
abbrev pub is_wide : ℕ → Bool
is_wide inputs = nat_lt NARROW_LIMIT inputs

-- the clauses of a gate of any number of inputs, with inner variables from z on
abbrev pub any_gate_clauses : Gate → ℕ → ℕ → List ℕ → ℕ → List Clause
any_gate_clauses gate h z xs y = if is_wide (length xs) then wide_clauses gate h z xs y else gate_clauses gate h xs y

-- the number of inner variables of a part with `ports` ports: if it has a chain, one for each input except the first and the last
abbrev pub inner_count : Rule → ℕ → ℕ
inner_count (OfTable t) ports = 0
inner_count (OfGate gate) ports = if is_wide (ports - 1) then ports - 3 else 0

-- The last port of a gate is its output. Its inner variables are from z on.
abbrev pub raw_clauses : List TruthTable → Rule → ℕ → ℕ → List ℕ → List Clause
raw_clauses tables (OfTable t) h z ports = table_clauses (slice_get tables t) h ports
raw_clauses tables (OfGate gate) h z ports =
    let inputs = length ports - 1 in any_gate_clauses gate h z (take inputs ports) (slice_index_or ports inputs 0)

-- ---- the clauses of a device

-- Health variables are 1 to the number of parts, in the order of the parts. The wires follow in theirs.
abbrev pub wire_variable : Device → ℕ → ℕ
wire_variable device wire = length device.parts + wire + 1

-- The inner variables come after all wires, part by part.
abbrev pub first_inner : Device → ℕ
first_inner device = length device.parts + length device.wires + 1

-- the number of inner variables of `parts`
abbrev pub inner_vars : List Component → ℕ
inner_vars [] = 0
inner_vars (part ∷ parts) = inner_count (rule part.kind) (length part.ports) + inner_vars parts

-- the clauses of `parts`: the first has the health variable h, and inner variables are from z on
abbrev pub clauses_from : Device → ℕ → ℕ → List Component → List Clause
clauses_from device h z [] = []
clauses_from device h z (part ∷ parts) =
    raw_clauses device.tables (rule part.kind) h z (map (wire_variable device) part.ports)
    ++ clauses_from device (h + 1) (z + inner_count (rule part.kind) (length part.ports)) parts

abbrev pub all_clauses : Device → List Clause
all_clauses device = clauses_from device 1 (first_inner device) device.parts

-- the number of clauses of the parts, before any is left out
abbrev pub raw_count : Device → ℕ
raw_count device = length (all_clauses device)

abbrev pub clause_list : Device → ClauseList
clause_list device = record {
  vars = length device.parts + length device.wires + inner_vars device.parts;
  clauses = tidy (all_clauses device);
}

-- a bound on the number of variables: each inner one comes with three clauses or more
abbrev pub most_variables : ℕ
most_variables = PART_LIMIT + WIRE_LIMIT + CLAUSE_LIMIT / 3

-- the reason of an error; lack of memory is none
abbrev pub reason : EncodeError → Option EncodeError
reason (TooManyClauses count) = Some (TooManyClauses count)
reason Memory = None

-- The clauses of a device, or their number if it is too large.
abbrev pub encoded : Device → Result ClauseList EncodeError
encoded device = if nat_lt CLAUSE_LIMIT (raw_count device) then Err (TooManyClauses (raw_count device)) else Ok (clause_list device)

-- For any bits of the health of `parts` parts and of `wires` wires: all clauses hold for some bits of the variables above these
-- exactly if these bits fit.
abbrev pub DescribesBy : ClauseList → ℕ → ℕ → (List Bool → List Bool → Bool) → Type 0
DescribesBy cnf parts wires fits = (state bits : List Bool) → length state ≡ parts → length bits ≡ wires
    → list_any (λ inner. all_hold (assignment (state ++ bits ++ inner)) cnf.clauses) (lists_of_bits (cnf.vars - (parts + wires)))
    ≡ fits state bits

-- the same for the bits that fit a device
abbrev pub Describes : ClauseList → Device → Type 0
Describes cnf device = DescribesBy cnf (length device.parts) (length device.wires) (fits device)
