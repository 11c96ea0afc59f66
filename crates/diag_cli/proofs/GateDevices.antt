-- A device of gates with no part held never contradicts what was seen: if all gates are faulty, they allow anything.
use Rattle.std.proofs.Common.{arith, ◌≡◌, ℕ, zero, suc, Bool, true, false, List, [], ◌∷◌, ◌++◌, map, length, replicate, Option, None, refl}
use Rattle.std.specs.Prelude.{Ok, ◌&&◌, IsSome, fold, unwrap_or}
use Rattle.std.specs.List.{filter_map, flat_map, list_all}
use Rattle.std.proofs.lemmas.Bool.{and_from}
use Rattle.std.proofs.lemmas.List.{length-map}
use Rattle.std.proofs.lemmas.List.Folds.{list_all-append}
use Rattle.text_rules.specs.Names.{Name}
use Rattle.text_rules.specs.TextLines.{all_lines}
use Rattle.state_rules.specs.Bits.{lists_of_bits}
use Rattle.state_rules.specs.Cases.{Case, agrees}
use Rattle.state_rules.specs.Ranking.{cost}
use Rattle.state_rules.specs.Systems.{least_cost}
use Rattle.state_rules.proofs.Bits.{same_bit-refl}
use Rattle.state_rules.proofs.Members.{In, bits_in, any_in, least-below}
use Rattle.device_model.specs.declared.gates.Rule.{Rule}
use Rattle.device_model.specs.declared.gates.Rule.TheVariants.{Gate as OfGate, Table as OfTable}
use Rattle.device_model.specs.declared.component.Component.{Component}
use Rattle.device_model.specs.TruthTable.{TruthTable}
use Rattle.device_model.specs.Gates.{rule}
use Rattle.device_model.specs.Devices.{Device, parts_fit, fits, part_names, part_costs}
use Rattle.device_model.specs.Diagnosis.{is_consistent, device_system}
use Rattle.device_model.specs.Building.{NamedPart, joined}
use Rattle.device_model.proofs.SortedDevices.{component_name, list_all-sorted_distinct}
use Rattle.bench_reader.specs.declared.kinds.FlipFlops.TheVariants.{Refused}
use Rattle.bench_reader.specs.Faults.{Fault, unless_fault}
use Rattle.bench_reader.specs.Statements.{Statement, Input, Output, Gate}
use Rattle.bench_reader.specs.Netlists.{part_of, device_of, fault_in, statement_in, faults_together, readings, netlist}
use Rattle.bench_reader.specs.inner.Steps.{is_faultless}
use Rattle.bench_reader.proofs.Lines.{said, read_are_faultless}
use Rattle.bench_reader.proofs.Parts.{faultless_gate}
use Rattle.adder_load.specs.Adders.{adder_text}
use Rattle.adder_load.specs.Readings.{readings as adder_readings, with_reading, adder_case}
use Rattle.adder_load.proofs.Cases.{case_seen}

-- ---- each part of a netlist is a gate

abbrev is_gate : Rule → Bool
is_gate (OfTable t) = false
is_gate (OfGate gate) = true

abbrev named_gate : NamedPart → Bool
named_gate part = is_gate (rule part.kind)

abbrev gate_part : Component → Bool
gate_part part = is_gate (rule part.kind)

of_statement : (s : Statement) → is_faultless s ≡ true → list_all named_gate (part_of s) ≡ true
of_statement (Input signal) h = refl
of_statement (Output signal) h = refl
of_statement (Gate output kind inputs) h = let gate = faultless_gate output kind inputs h in grind (arith, gate.meant, gate.taken)

of_statements : (statements : List Statement) → list_all is_faultless statements ≡ true → list_all named_gate (flat_map part_of statements) ≡ true
of_statements [] h = refl
of_statements (s ∷ statements) h = grind (arith, list_all-append, of_statement s, of_statements statements)

over_wires : (wires : List Name) (parts : List NamedPart) → list_all named_gate parts ≡ true → list_all gate_part (map (joined wires) parts) ≡ true
over_wires wires [] h = refl
over_wires wires (part ∷ parts) h = grind (arith, over_wires wires parts)

device_of_gates : (statements : List Statement) → list_all is_faultless statements ≡ true → list_all gate_part (device_of statements).parts ≡ true
device_of_gates statements h =
    let wires = (device_of statements).wires in
    let parts = flat_map part_of statements in
    list_all-sorted_distinct component_name gate_part (map (joined wires) parts) (over_wires wires parts (of_statements statements h))

abbrev statements_in : List ℕ → List Statement
statements_in text = map said (filter_map statement_in (readings Refused text))

netlist_of_gates : (text : List ℕ) (device : Device) → netlist text ≡ Ok device → list_all gate_part device.parts ≡ true
netlist_of_gates text device is = by (filter_map fault_in (readings Refused text) ++ faults_together (filter_map statement_in (readings Refused text))) is
  where
    by : (faults : List Fault) → unless_fault faults (device_of (statements_in text)) ≡ Ok device → list_all gate_part device.parts ≡ true
    by faults e = grind (arith, device_of_gates (statements_in text) (read_are_faultless Refused 1 (all_lines text)))

-- ---- faulty gates allow anything

all_faulty : List Component → List Bool
all_faulty parts = map (λ (part : Component). false) parts

faulty_fit : (tables : List TruthTable) (parts : List Component) (wires : List Bool) → list_all gate_part parts ≡ true → parts_fit tables parts (all_faulty parts) wires ≡ true
unfolding all_faulty
faulty_fit tables [] wires h = refl
faulty_fit tables (part ∷ parts) wires h = grind (arith, faulty_fit tables parts wires)

-- any state agrees if nothing is held
none_held : (parts : ℕ) (state : List Bool) → agrees (replicate parts None) state ≡ true
none_held zero state = refl
none_held (suc n) [] = refl
none_held (suc n) (ok ∷ state) = none_held n state

-- bits of the wires that are what was seen
seen_bits : List (Option Bool) → List Bool
seen_bits seen = map (λ o. unwrap_or o false) seen

seen_agree : (seen : List (Option Bool)) → agrees seen (seen_bits seen) ≡ true
unfolding seen_bits
seen_agree [] = refl
seen_agree (o ∷ seen) = grind (arith, same_bit-refl, seen_agree seen)

-- the case of these readings with nothing held
abbrev pub seen_case : Device → List (Option Bool) → Case
seen_case device seen = record { seen = seen; held = replicate (length device.parts) None }

gates_agree : (device : Device) (seen : List (Option Bool)) → list_all gate_part device.parts ≡ true → length seen ≡ length device.wires → IsSome (least_cost (device_system device) (seen_case device seen))
unfolding all_faulty seen_bits
gates_agree device seen gates long =
    let state = all_faulty device.parts in
    let wires = seen_bits seen in
    let known = seen_case device seen in
    let is_state : In state (lists_of_bits (length (part_names device.parts))) = rw (length-map, ← length-map device.parts (λ (part : Component). false)) (bits_in state) in
    let are_wires : In wires (lists_of_bits (length device.wires)) = rw (← long, ← length-map seen (λ (o : Option Bool). unwrap_or o false)) (bits_in wires) in
    let fit : (agrees seen wires && fits device state wires) ≡ true = grind (arith, seen_agree seen, faulty_fit device.tables device.parts wires gates) in
    let passes : is_consistent (fits device) (length device.wires) known state ≡ true =
    and_from _ _ (none_held (length device.parts) state) (any_in (λ bits. agrees seen bits && fits device state bits) wires (lists_of_bits (length device.wires)) are_wires fit) in
    let found = least-below (cost (part_costs device)) (is_consistent (fits device) (length device.wires) known) state (lists_of_bits (length (part_names device.parts))) is_state passes in
    grind (arith, found)

pub netlists_agree : (text : List ℕ) (device : Device) (seen : List (Option Bool)) → netlist text ≡ Ok device → length seen ≡ length device.wires → IsSome (least_cost (device_system device) (seen_case device seen))
netlists_agree text device seen is long = gates_agree device seen (netlist_of_gates text device is) long

pub loads_agree : (places : ℕ) (device : Device) → netlist (adder_text places) ≡ Ok device → IsSome (least_cost (device_system device) (adder_case device places))
loads_agree places device is =
    netlists_agree (adder_text places) device (fold (with_reading device.wires) (replicate (length device.wires) None) (adder_readings places)) is (case_seen device places)
