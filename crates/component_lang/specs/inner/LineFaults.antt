-- The errors of lines.
use Rattle.std.specs.Prelude.{ℕ, Option, Some, None}
use Rattle.component_lang.specs.declared.fault.LangFault.{LangFault}
use Rattle.component_lang.specs.declared.fault.LangError.{LangError}
use Rattle.component_lang.specs.declared.fault.LangError.TheVariants.{Bad, Memory as NoMemory}
use Rattle.component_lang.specs.declared.line_error.LineError.{LineError}
use Rattle.component_lang.specs.declared.line_error.LineError.TheVariants.{Fault, Memory}

-- the fault in an error of a line; lack of memory is none
abbrev pub fault_told : LineError → Option LangFault
fault_told (Fault what) = Some what
fault_told Memory = None

-- the error of a text, from that of its line
abbrev pub error_in : ℕ → LineError → LangError
error_in line (Fault what) = Bad line what
error_in line Memory = NoMemory
