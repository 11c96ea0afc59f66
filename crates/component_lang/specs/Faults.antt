-- The numbers and names of the faults of designs.
use Rattle.std.specs.Prelude.{ℕ, List, codes, Option, Some, None}
use Rattle.component_lang.specs.declared.fault.LangFault.{LangFault}
use Rattle.component_lang.specs.declared.fault.LangFault.TheVariants.{Line, Name, Twice, Unknown, Ports, Row, NoTop, AfterTop, Cost}
use Rattle.component_lang.specs.declared.fault.LangError.{LangError}
use Rattle.component_lang.specs.declared.fault.LangError.TheVariants.{Bad, Memory}
use Rattle.component_lang.specs.Reading.{Fault}

-- the number of a fault, and its name
abbrev pub fault_row : LangFault → ℕ × List ℕ
fault_row Line = (1, codes "line")
fault_row Name = (2, codes "name")
fault_row Twice = (3, codes "twice")
fault_row Unknown = (4, codes "unknown")
fault_row Ports = (5, codes "ports")
fault_row Row = (6, codes "row")
fault_row NoTop = (7, codes "no top")
fault_row AfterTop = (8, codes "after top")
fault_row Cost = (9, codes "cost")

-- the fault in an error; lack of memory is none
abbrev pub told : LangError → Option Fault
told (Bad line what) = Some (record { line = line; what = what })
told Memory = None
