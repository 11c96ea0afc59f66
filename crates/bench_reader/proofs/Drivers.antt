-- The drivers of signals.
use Rattle.std.proofs.Common.{◌≡◌, Bool, true, false, cond, List, [], ◌∷◌, Option, Some, None, is_some, refl, sym, arith}
use Rattle.std.specs.List.{flat_map}
use Rattle.std.specs.Map.{lookup, keys_of}
use Rattle.std.proofs.lemmas.Map.Made.{is_some-lookup}
use Rattle.indexmap.specs.IndexMap.{insert_entry}
use Rattle.text_rules.specs.Names.{Name, same_name, is_among}
use Rattle.device_model.specs.Building.{repeated}
use Rattle.device_model.proofs.NameOrder.{same_name-other}
use Rattle.bench_reader.specs.declared.signals.Driver.{Driver}
use Rattle.bench_reader.specs.declared.signals.Driver.TheVariants.{Outside, Gate as ByGate}
use Rattle.bench_reader.specs.declared.kinds.NamedKind.{NamedKind}
use Rattle.bench_reader.specs.Statements.{Statement, Input, Output, Gate}
use Rattle.bench_reader.specs.Signals.{driven_by_gate, driven}
use Rattle.bench_reader.specs.inner.Steps.{Signals}
use Rattle.text_rules.proofs.NameLemmas.{same_if_equal, equal_if_same, same_name-Decides}

abbrev pub is_gate : Option Driver → Bool
is_gate None = false
is_gate (Some Outside) = false
is_gate (Some ByGate) = true

abbrev pub driver_of : Signals → Name → Option Driver
driver_of ds name = lookup (same_name name) ds

-- a name is among the keys exactly if it has a driver
pub among_keys : (name : Name) (ds : Signals) → is_among (keys_of ds) name ≡ is_some (driver_of ds name)
among_keys name ds = sym (is_some-lookup (same_name name) ds)

-- the driver of `m` after `n` is inserted
pub lookup-insert : (m n : Name) (driver : Driver) (ds : Signals) → driver_of (insert_entry same_name ds n driver) m ≡ cond (same_name m n) (Some driver) (driver_of ds m)
lookup-insert m n driver [] = refl
lookup-insert m n driver (d ∷ ds) = grind (arith, equal_if_same, same_if_equal, lookup-insert m n driver ds)

-- an insertion repeats no name
pub repeated-insert : (n : Name) (driver : Driver) (ds : Signals) → repeated (keys_of ds) ≡ [] → repeated (keys_of (insert_entry same_name ds n driver)) ≡ []
repeated-insert n driver [] h = refl
repeated-insert n driver (d ∷ ds) h = grind (arith, among_keys, lookup-insert, same_name-other, repeated-insert n driver ds)

-- `ds` are the drivers of the statements above
pub record Drives (ds : Signals) (above : List Statement) : Type 0 where
  pub all : (m : Name) → is_among (flat_map driven above) m ≡ is_some (driver_of ds m)
  pub gates : (m : Name) → is_among (flat_map driven_by_gate above) m ≡ is_gate (driver_of ds m)
  pub once : repeated (keys_of ds) ≡ []

pub Drives-none : Drives [] []
Drives-none = record { all = λ m. refl; gates = λ m. refl; once = refl }

pub Drives-gate : (ds : Signals) (above : List Statement) (o : Name) (k : NamedKind) (is : List Name) → Drives ds above → Drives (insert_entry same_name ds o ByGate) (Gate o k is ∷ above)
Drives-gate ds above o k is h = grind (arith, lookup-insert, repeated-insert)

pub Drives-input : (ds : Signals) (above : List Statement) (s : Name) → is_gate (driver_of ds s) ≡ false → Drives ds above → Drives (insert_entry same_name ds s Outside) (Input s ∷ above)
Drives-input ds above s free h = grind (arith, same_name-Decides, lookup-insert, repeated-insert)

pub Drives-output : (ds : Signals) (above : List Statement) (s : Name) → Drives ds above → Drives ds (Output s ∷ above)
Drives-output ds above s h = record { all = h.all; gates = h.gates; once = h.once }
