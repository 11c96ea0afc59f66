-- The faults of netlists: their numbers, their names, and the fault in an error.
use Rattle.std.specs.Prelude.{ℕ, List, [], ◌∷◌, codes, Option, Some, None, Result, Ok, Err}
use Rattle.bench_reader.specs.declared.fault.BenchFault.{BenchFault}
use Rattle.bench_reader.specs.declared.fault.BenchFault.TheVariants.{Line, Name, Kind, Inputs, Sequential, DrivenTwice, Undriven, TooMany}
use Rattle.bench_reader.specs.declared.fault.BenchError.{BenchError}
use Rattle.bench_reader.specs.declared.fault.BenchError.TheVariants.{Bad, Memory}

-- the number of a fault, and its name
abbrev pub fault_row : BenchFault → ℕ × List ℕ
fault_row Line = (1, codes "line")
fault_row Name = (2, codes "name")
fault_row Kind = (3, codes "kind")
fault_row Inputs = (4, codes "inputs")
fault_row Sequential = (5, codes "sequential")
fault_row DrivenTwice = (6, codes "driven twice")
fault_row Undriven = (7, codes "undriven")
fault_row TooMany = (8, codes "too many")

-- a fault of a text, and its line
pub record Fault : Type 0 where
  pub line : ℕ
  pub what : BenchFault

abbrev pub fault_at : BenchFault → ℕ → Fault
fault_at what line = record { line = line; what = what }

-- the fault in an error; lack of memory is none
abbrev pub told : BenchError → Option Fault
told (Bad line what) = Some (fault_at what line)
told Memory = None

-- `a` if there is no fault, else the first fault
abbrev pub unless_fault : {A : Type 0} → List Fault → A → Result A Fault
unless_fault [] a = Ok a
unless_fault (fault ∷ faults) a = Err fault
