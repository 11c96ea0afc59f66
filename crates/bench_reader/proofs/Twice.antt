-- The statements that drive a signal again: either there is none and the signals are found, or the first is reported.
use Rattle.std.proofs.Common.{◌≡◌, ℕ, true, false, List, [], ◌∷◌, map, is_some, refl, ◌∙◌, arith}
use Rattle.std.specs.Prelude.{◌||◌, Result, Ok, Err}
use Rattle.std.specs.List.{flat_map}
use Rattle.std.specs.Map.{keys_of}
use Rattle.std.proofs.lemmas.Bool.{or_right}
use Rattle.std.proofs.lemmas.List.Folds.{list_any-append}
use Rattle.std.proofs.Math.Bool.{or-false}
use Rattle.indexmap.specs.IndexMap.{insert_entry}
use Rattle.text_rules.specs.Names.{Name, same_name, is_among}
use Rattle.device_model.specs.Building.{repeated}
use Rattle.bench_reader.specs.declared.signals.Driver.TheVariants.{Outside, Gate as ByGate}
use Rattle.bench_reader.specs.declared.fault.BenchFault.TheVariants.{DrivenTwice}
use Rattle.bench_reader.specs.Faults.{Fault, fault_at}
use Rattle.bench_reader.specs.Statements.{Statement, Input, Output, Gate}
use Rattle.bench_reader.specs.Signals.{driven_by_gate, driven, is_driven_twice, driven_twice}
use Rattle.bench_reader.specs.inner.Steps.{Signals, driven_more, signals_from}
use Rattle.bench_reader.proofs.Drivers.{is_gate, driver_of, Drives, Drives-gate, Drives-input, Drives-output}
use Rattle.bench_reader.proofs.Lines.{said}
use Rattle.text_rules.proofs.NameLemmas.{same_if_equal, same_name-Decides}

-- the drivers are those of the statements above and below
pub record Ends (ds : Signals) (above below : List Statement) : Type 0 where
  pub all : (m : Name) → (is_among (flat_map driven above) m || is_among (flat_map driven below) m) ≡ is_some (driver_of ds m)
  pub once : repeated (keys_of ds) ≡ []

-- no statement drives a signal that is driven above it, or the fault is the first that does
abbrev pub Splits : Result Signals Fault → List (ℕ × Statement) → List Statement → Type 0
Splits (Err fault) statements above = (lines : List ℕ) × (fault ≡ fault_at DrivenTwice fault.line) × (driven_twice above statements ≡ fault.line ∷ lines)
Splits (Ok ds) statements above = (driven_twice above statements ≡ []) × Ends ds above (map said statements)

module _ (f : ℕ × Statement) (statements : List (ℕ × Statement)) (above : List Statement) where
  step_on : (ds more : Signals) → driven_more ds f ≡ Ok more → is_driven_twice above f.1 ≡ false → Splits (signals_from more statements) statements (f.1 ∷ above)
      → Splits (signals_from ds (f ∷ statements)) (f ∷ statements) above
  step_on ds more e t h = grind arith

  step_off : (ds : Signals) → driven_more ds f ≡ Err (fault_at DrivenTwice f.0) → is_driven_twice above f.1 ≡ true → Splits (signals_from ds (f ∷ statements)) (f ∷ statements) above
  step_off ds e t = rw (e, t) (driven_twice (f.1 ∷ above) statements, refl, refl)

pub splits : (statements : List (ℕ × Statement)) (above : List Statement) (ds : Signals) → Drives ds above → Splits (signals_from ds statements) statements above
splits [] above ds h = (refl, record { all = λ m. or-false (is_among (flat_map driven above) m) ∙ h.all m; once = h.once })
splits ((line, Output s) ∷ statements) above ds h = step_on (line, Output s) statements above ds ds refl refl (splits statements (Output s ∷ above) ds (Drives-output ds above s h))
splits ((line, Gate o k is) ∷ statements) above ds h =
    let more = insert_entry same_name ds o ByGate in
    let rest : Splits (signals_from more statements) statements (Gate o k is ∷ above) = splits statements (Gate o k is ∷ above) more (Drives-gate ds above o k is h) in
    grind (arith, step_on (line, Gate o k is) statements above ds more, step_off (line, Gate o k is) statements above ds, rest, h.all o)
splits ((line, Input s) ∷ statements) above ds h =
    let more = insert_entry same_name ds s Outside in
    let rest : is_gate (driver_of ds s) ≡ false → Splits (signals_from more statements) statements (Input s ∷ above) = λ free. splits statements (Input s ∷ above) more (Drives-input ds above s free h) in
    grind (arith, step_on (line, Input s) statements above ds more, step_off (line, Input s) statements above ds, rest, h.gates s)

-- ---- gates drive different signals

twice_parts : (f : ℕ × Statement) (statements : List (ℕ × Statement)) (above : List Statement) → driven_twice above (f ∷ statements) ≡ []
    → (is_driven_twice above f.1 ≡ false) × (driven_twice (f.1 ∷ above) statements ≡ [])
twice_parts f statements above h = grind arith

still_above : (f : Statement) (above : List Statement) (m : Name) → is_among (flat_map driven above) m ≡ true → is_among (flat_map driven (f ∷ above)) m ≡ true
still_above f above m e = list_any-append (same_name m) (driven f) (flat_map driven above) ∙ or_right (is_among (driven f) m) _ e

-- no gate drives a signal that is driven above
gates_apart : (statements : List (ℕ × Statement)) (above : List Statement) (m : Name) → driven_twice above statements ≡ [] → is_among (flat_map driven above) m ≡ true
    → is_among (flat_map driven_by_gate (map said statements)) m ≡ false
gates_apart [] above m h e = refl
gates_apart (f ∷ statements) above m h e = grind (arith, same_name-Decides, still_above, twice_parts, gates_apart statements (f.1 ∷ above) m)

pub gates_once : (statements : List (ℕ × Statement)) (above : List Statement) → driven_twice above statements ≡ [] → repeated (flat_map driven_by_gate (map said statements)) ≡ []
gates_once [] above h = refl
gates_once (f ∷ statements) above h = grind (arith, gates_apart, same_if_equal, twice_parts, gates_once statements (f.1 ∷ above))
