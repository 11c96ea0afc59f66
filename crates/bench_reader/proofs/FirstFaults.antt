-- The netlist of a text, from what its lines say, drive and use.
use Rattle.std.proofs.Common.{◌≡◌, ℕ, suc, inl, inr, Bool, true, false, List, [], ◌∷◌, ◌++◌, map, length, Option, Some, None, Ok, Err, refl, sym, ap, subst, ◌∙◌, arith}
use Rattle.std.specs.Prelude.{Result, if◌then◌else◌}
use Rattle.std.specs.List.{filter_map, flat_map, list_all}
use Rattle.std.specs.Map.{keys_of}
use Rattle.std.proofs.lemmas.Bool.{or_parts, ltb-false}
use Rattle.std.proofs.lemmas.List.{length-map}
use Rattle.text_rules.specs.Expected.{IsExpectedFault}
use Rattle.text_rules.specs.Names.{Name, is_short_name, is_among}
use Rattle.text_rules.specs.TextLines.{all_lines}
use Rattle.state_rules.proofs.Members.{In}
use Rattle.device_model.specs.declared.component.Component.{Component}
use Rattle.device_model.specs.declared.building.BuildError.{BuildError}
use Rattle.device_model.specs.declared.building.BuildError.TheVariants.{Memory as NoMemory}
use Rattle.device_model.specs.TruthTable.{TruthTable}
use Rattle.device_model.specs.Order.{placed, sorted_distinct}
use Rattle.device_model.specs.Devices.{Device}
use Rattle.device_model.specs.Building.{joined, reason, repeated, built, device_over}
use Rattle.device_model.proofs.NameOrder.{same, below, above, compared}
use Rattle.device_model.proofs.Ordered.{among_sorted_distinct, placed-below, placed-above}
use Rattle.device_model.proofs.SortedLists.{itself}
use Rattle.device_model.proofs.Repeats.{is_among-among, among_from_test}
use Rattle.device_model.proofs.SortedDevices.{list_all-among, list_all-from_among, component_name}
use Rattle.device_model.proofs.CallerLemmas.{sorted_distinct-same_tests, only_memory as only_memory_of}
use Rattle.device_model.proofs.BuiltDevices.{CanBeBuilt, built-over}
use Rattle.bench_reader.specs.declared.fault.BenchFault.TheVariants.{Undriven, TooMany}
use Rattle.bench_reader.specs.declared.fault.BenchError.{BenchError}
use Rattle.bench_reader.specs.declared.kinds.FlipFlops.{FlipFlops}
use Rattle.bench_reader.specs.declared.statement.NumberedStatement.{NumberedStatement}
use Rattle.bench_reader.specs.Faults.{Fault, fault_at, told, unless_fault}
use Rattle.bench_reader.specs.Statements.{Statement}
use Rattle.bench_reader.specs.Signals.{driven, driven_by_gate, used, driven_twice, undriven}
use Rattle.bench_reader.specs.Netlists.{part_of, device_of, fault_in, statement_in, readings, netlist_with}
use Rattle.bench_reader.specs.inner.Lines.{unnumbered, with_number}
use Rattle.bench_reader.specs.inner.Steps.{statements_or_fault, device_or_fault, Signals, signals_from, first_undriven, is_too_large, is_faultless, AreFaultless}
use Rattle.bench_reader.proofs.Drivers.{among_keys, Drives-none}
use Rattle.bench_reader.proofs.Lines.{said, read_are_faultless}
use Rattle.bench_reader.proofs.Twice.{Ends, Splits, splits, gates_once}
use Rattle.bench_reader.proofs.Parts.{names-parts, names-joined, statements_fit, arities-joined, wired-joined, named_back}

-- ---- sorting keeps the number of different names

length-placed_new : (x : Name) (ys : List Name) → (In x ys → ⊥) → length (placed itself x ys) ≡ suc (length ys)
length-placed_new x [] h = refl
length-placed_new x (y ∷ ys) h = elim (compared x y) [
  | same e ↦ absurd (h (inl e))
  | below l ↦ ap length (placed-below itself x y ys l)
  | above l ↦ (let rest = length-placed_new x ys (λ m. h (inr m)) in ap length (placed-above itself x y ys l) ∙ ap suc rest)
]

length-sorted_distinct_once : (ns : List Name) → repeated ns ≡ [] → length (sorted_distinct itself ns) ≡ length ns
length-sorted_distinct_once [] h = refl
length-sorted_distinct_once (n ∷ ns) h = grind (arith, length-placed_new, is_among-among, among_sorted_distinct, length-sorted_distinct_once ns)

-- ---- signals as names of wires

pub all_driven_named : (statements : List Statement) → list_all is_faultless statements ≡ true → list_all is_short_name (flat_map driven statements) ≡ true
all_driven_named [] h = refl
all_driven_named (s ∷ statements) h = grind (arith, all_driven_named statements)

gates_pass : (p : Name → Bool) (statements : List Statement) → list_all p (flat_map driven statements) ≡ true → list_all (λ s. list_all p (driven_by_gate s)) statements ≡ true
gates_pass p [] h = refl
gates_pass p (s ∷ statements) h = grind (arith, gates_pass p statements)

-- ---- the device of statements without a fault

module _ (statements : List Statement) (signals : List Name) (fine : AreFaultless statements signals) where
  pub signals-named : list_all is_short_name signals ≡ true
  signals-named = list_all-from_among is_short_name signals (λ n m.
      list_all-among is_short_name (flat_map driven statements) (all_driven_named statements fine.faultless) n
      (among_from_test n (flat_map driven statements) (sym (fine.members n) ∙ is_among-among n signals m)))

  gates_here : list_all (λ s. list_all (is_among signals) (driven_by_gate s)) statements ≡ true
  gates_here = gates_pass (is_among signals) statements (list_all-from_among (is_among signals) (flat_map driven statements) (λ n m. fine.members n ∙ is_among-among n (flat_map driven statements) m))

  names-made : map component_name (map (joined signals) (flat_map part_of statements)) ≡ flat_map driven_by_gate statements
  names-made = names-joined signals (flat_map part_of statements) ∙ names-parts statements fine.faultless

  can_be_built : CanBeBuilt (map (joined signals) (flat_map part_of statements)) signals []
  can_be_built = grind (arith, statements_fit, gates_here, length-map, names-made, arities-joined, wired-joined)

  built-device : built (map (joined signals) (flat_map part_of statements)) signals [] ≡ Ok (device_of statements)
  built-device =
      let parts = flat_map part_of statements in
      built-over (map (joined signals) parts) signals [] can_be_built
      ∙ ap (λ ps. Ok (device_over ps signals [])) (named_back signals parts (statements_fit signals statements fine.faultless gates_here fine.uses))
      ∙ ap (λ sorted. Ok (record { parts = sorted_distinct component_name (map (joined sorted) parts); wires = sorted; tables = [] }))
      (sorted_distinct-same_tests signals (flat_map driven statements) fine.members)

  module _ (parts : List Component) (wires : List Name) (tables : List TruthTable) (p : parts ≡ map (joined signals) (flat_map part_of statements)) (w : wires ≡ signals) (t : tables ≡ []) where
    built-of_these : built parts wires tables ≡ Ok (device_of statements)
    built-of_these = (λ i. built (p i) (w i) (t i)) ∙ built-device

    pub the_device : (device : Device) → built parts wires tables ≡ Ok device → device_of statements ≡ device
    the_device device e = let both = sym built-of_these ∙ e in cc

    -- The only error is lack of memory.
    pub only_memory : (error : BuildError) → IsExpectedFault (reason error) (built parts wires tables) → error ≡ NoMemory
    only_memory = only_memory_of parts wires tables _ built-of_these

-- ---- used signals

there-said : (statements : List (ℕ × Statement)) → flat_map (λ (s : ℕ × Statement). driven s.1) statements ≡ flat_map driven (map said statements)
there-said [] = refl
there-said (s ∷ statements) = ap (λ ns. driven s.1 ++ ns) (there-said statements)

abbrev IsFirst : Option ℕ → List ℕ → Type 0
IsFirst None lines = lines ≡ []
IsFirst (Some line) lines = (rest : List ℕ) × (lines ≡ line ∷ rest)

-- `first_undriven` finds the first such line if both lists have the same names.
first_without : (there signals : List Name) → ((n : Name) → is_among there n ≡ is_among signals n) → (statements : List (ℕ × Statement))
    → IsFirst (first_undriven signals statements) (undriven there statements)
first_without there signals alike [] = refl
first_without there signals alike ((line, s) ∷ statements) = grind (arith, first_without there signals alike statements)

all_used : (signals : List Name) (statements : List (ℕ × Statement)) → first_undriven signals statements ≡ None → list_all (λ s. list_all (is_among signals) (used s)) (map said statements) ≡ true
all_used signals [] h = refl
all_used signals ((line, s) ∷ statements) h = grind (arith, all_used signals statements)

-- ---- statements, from step to step

-- the device, or the first of these faults of the statements together
abbrev unless_together : List (ℕ × Statement) → List Fault → List Fault → List Fault → Result Device Fault
unless_together statements twice without many = unless_fault (twice ++ without ++ many) (device_of (map said statements))

module _ (statements : List (ℕ × Statement)) where
  abbrev there : List Name
  there = flat_map (λ (s : ℕ × Statement). driven s.1) statements

  pub fault_driven : (fault : Fault) → signals_from [] statements ≡ Err fault → device_or_fault statements ≡ Err fault
  fault_driven fault h =
      let split : Splits (Err fault) statements [] = subst (λ o. Splits o statements []) h (splits statements [] [] Drives-none) in
      grind arith

  module _ (signals : Signals) (driven_so : signals_from [] statements ≡ Ok signals) where
    split : (driven_twice [] statements ≡ []) × Ends signals [] (map said statements)
    split = subst (λ o. Splits o statements []) driven_so (splits statements [] [] Drives-none)

    members : (m : Name) → is_among (keys_of signals) m ≡ is_among (flat_map driven (map said statements)) m
    members m = among_keys m signals ∙ sym (split.1.all m)

    without_twice : device_or_fault statements ≡ unless_together statements [] (map (fault_at Undriven) (undriven there statements))
        (if is_too_large (map said statements) (device_of (map said statements)).wires then fault_at TooMany 0 ∷ [] else [])
    without_twice = grind (arith, split)

    first : IsFirst (first_undriven (keys_of signals) statements) (undriven there statements)
    first = first_without there (keys_of signals) (λ m. ap (λ ns. is_among ns m) (there-said statements) ∙ sym (members m)) statements

    pub fault_used : (line : ℕ) → first_undriven (keys_of signals) statements ≡ Some line → device_or_fault statements ≡ Err (fault_at Undriven line)
    fault_used line h = grind (arith, first, without_twice)

    module _ (used_so : first_undriven (keys_of signals) statements ≡ None) where
      many : length (device_of (map said statements)).wires ≡ length (keys_of signals)
      many = ap length (sym (sorted_distinct-same_tests (keys_of signals) (flat_map driven (map said statements)) members)) ∙ length-sorted_distinct_once (keys_of signals) split.1.once

      without_undriven : device_or_fault statements ≡ unless_together statements [] [] (if is_too_large (map said statements) (keys_of signals) then fault_at TooMany 0 ∷ [] else [])
      without_undriven = grind (arith, without_twice, first, many)

      pub fault_many : is_too_large (map said statements) (keys_of signals) ≡ true → device_or_fault statements ≡ Err (fault_at TooMany 0)
      fault_many h = without_undriven ∙ ap (λ b. unless_together statements [] [] (if b then fault_at TooMany 0 ∷ [] else [])) h

      module _ (few : is_too_large (map said statements) (keys_of signals) ≡ false) where
        pub all_faultless : list_all is_faultless (map said statements) ≡ true → AreFaultless (map said statements) (keys_of signals)
        all_faultless h = grind (arith, split, gates_once, members, all_used, or_parts, ltb-false)

        pub is_made : device_or_fault statements ≡ Ok (device_of (map said statements))
        is_made = without_undriven ∙ ap (λ b. unless_together statements [] [] (if b then fault_at TooMany 0 ∷ [] else [])) few

-- ---- a text

module _ (flip_flops : FlipFlops) (text : List ℕ) where
  pub handed_read : (error : BenchError) → IsExpectedFault (told error) (statements_or_fault (readings flip_flops text)) → IsExpectedFault (told error) (netlist_with flip_flops text)
  handed_read error h = grind arith

  module _ (statements : List (ℕ × Statement)) (read : statements_or_fault (readings flip_flops text) ≡ Ok statements) where
    pub both : (filter_map fault_in (readings flip_flops text) ≡ []) × (filter_map statement_in (readings flip_flops text) ≡ statements)
    both = grind arith

    pub are_faultless : list_all is_faultless (map said statements) ≡ true
    are_faultless = ap (λ ss. list_all is_faultless (map said ss)) (sym both.1) ∙ read_are_faultless flip_flops 1 (all_lines text)

    pub is_read : netlist_with flip_flops text ≡ device_or_fault statements
    is_read = grind arith

-- ---- statements without their lines

pub said-with_number : (statements : List NumberedStatement) → map said (map with_number statements) ≡ map unnumbered statements
said-with_number [] = refl
said-with_number (s ∷ statements) = ap (λ (ss : List Statement). unnumbered s ∷ ss) (said-with_number statements)

-- ---- faults that are passed on

pub handed_driven : (error : BenchError) (statements : List (ℕ × Statement)) → IsExpectedFault (told error) (signals_from [] statements) → IsExpectedFault (told error) (device_or_fault statements)
handed_driven error statements h = grind (arith, fault_driven)
