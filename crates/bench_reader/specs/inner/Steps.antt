-- The steps from the statements of lines to a device: each returns what the next one needs, or a fault.
use Rattle.std.specs.Prelude.{◌≡◌, ℕ, ◌≤◌, Bool, true, List, [], ◌∷◌, map, length, Option, Some, None, is_none, nat_lt, ◌||◌, Result, Ok, Err, if◌then◌else◌}
use Rattle.std.specs.List.{list_all, filter_map, flat_map}
use Rattle.std.specs.Map.{lookup}
use Rattle.std.specs.Borrow.{Bor}
use Rattle.indexmap.specs.IndexMap.{IndexMap, insert_entry}
use Rattle.text_rules.specs.Names.{Name, same_name, is_among}
use Rattle.device_model.specs.declared.limits.TheConstants.{PART_LIMIT, WIRE_LIMIT}
use Rattle.device_model.specs.Devices.{Device}
use Rattle.device_model.specs.Building.{repeated}
use Rattle.bench_reader.specs.declared.fault.BenchFault.{BenchFault}
use Rattle.bench_reader.specs.declared.fault.BenchFault.TheVariants.{DrivenTwice}
use Rattle.bench_reader.specs.declared.kinds.FlipFlops.TheVariants.{Taken}
use Rattle.bench_reader.specs.declared.signals.Driver.{Driver}
use Rattle.bench_reader.specs.declared.signals.Driver.TheVariants.{Outside, Gate as ByGate}
use Rattle.bench_reader.specs.Faults.{Fault, fault_at, unless_fault}
use Rattle.bench_reader.specs.Statements.{Statement, Input, Output, Gate, statement_fault}
use Rattle.bench_reader.specs.Signals.{driven_by_gate, driven, used}
use Rattle.bench_reader.specs.Netlists.{device_of, fault_in, statement_in, faults_together}

-- ---- reading

-- the statements of the lines, or the first fault of a single line
abbrev pub statements_or_fault : List (ℕ × Result (Option Statement) BenchFault) → Result (List (ℕ × Statement)) Fault
statements_or_fault readings = unless_fault (filter_map fault_in readings) (filter_map statement_in readings)

-- the device of statements that have no fault by themselves, or their first fault together
abbrev pub device_or_fault : List (ℕ × Statement) → Result Device Fault
device_or_fault statements = unless_fault (faults_together statements) (device_of (map (λ (s : ℕ × Statement). s.1) statements))

-- ---- driven signals

-- the driven signals in the order in which they are first driven, each with its driver
abbrev pub Signals : Type 0
Signals = List (Name × Driver)

-- the signals in a map
abbrev pub signals_in : {S : Type 0} → IndexMap (Bor Name) Driver S → Signals
signals_in signals = map (λ e. (e.0.now, e.1)) signals.entries

abbrev pub if_free : ℕ → Option Driver → Signals → Result Signals Fault
if_free line None more = Ok more
if_free line (Some driver) more = Err (fault_at DrivenTwice line)

abbrev pub unless_gate : ℕ → Option Driver → Signals → Result Signals Fault
unless_gate line None more = Ok more
unless_gate line (Some Outside) more = Ok more
unless_gate line (Some ByGate) more = Err (fault_at DrivenTwice line)

-- `above` with the signal that a statement drives: a gate's must be new, an `INPUT` may repeat one that no gate drives
abbrev pub driven_more : Signals → ℕ × Statement → Result Signals Fault
driven_more above (line, Gate output kind inputs) =
    if_free line (lookup (same_name output) above) (insert_entry same_name above output ByGate)
driven_more above (line, Input signal) =
    unless_gate line (lookup (same_name signal) above) (insert_entry same_name above signal Outside)
driven_more above (line, Output signal) = Ok above

abbrev pub and_then : {A B : Type 0} → Result A Fault → (A → Result B Fault) → Result B Fault
and_then (Ok a) next = next a
and_then (Err fault) next = Err fault

abbrev pub signals_from : Signals → List (ℕ × Statement) → Result Signals Fault
signals_from above [] = Ok above
signals_from above (statement ∷ statements) = and_then (driven_more above statement) (λ more. signals_from more statements)

-- ---- used signals

-- the first line that uses a signal which is not in `signals`
abbrev pub first_undriven : List Name → List (ℕ × Statement) → Option ℕ
first_undriven signals [] = None
first_undriven signals ((line, statement) ∷ statements) =
    if list_all (is_among signals) (used statement) then first_undriven signals statements else Some line

-- ---- sizes and faults

abbrev pub is_too_large : List Statement → List Name → Bool
is_too_large statements signals = nat_lt PART_LIMIT (length (flat_map driven_by_gate statements)) || nat_lt WIRE_LIMIT (length signals)

-- whether a statement has no fault if flip-flops are taken (refused ones are already gone)
abbrev pub is_faultless : Statement → Bool
is_faultless statement = is_none (statement_fault Taken statement)

-- the statements have no fault, and `signals` are the signals that they drive
pub record AreFaultless (statements : List Statement) (signals : List Name) : Type 0 where
  pub faultless : list_all is_faultless statements ≡ true
  pub gates_once : repeated (flat_map driven_by_gate statements) ≡ []
  pub once : repeated signals ≡ []
  pub members : (name : Name) → is_among signals name ≡ is_among (flat_map driven statements) name
  pub uses : list_all (λ statement. list_all (is_among signals) (used statement)) statements ≡ true
  pub few_parts : length (flat_map driven_by_gate statements) ≤ PART_LIMIT
  pub few_wires : length signals ≤ WIRE_LIMIT
