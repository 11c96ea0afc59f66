-- Why a file does not give what the words ask for, and what is printed then.
use Rattle.std.specs.Prelude.{ℕ, List, Option, Some, None, Result, unwrap_or}
use Rattle.text_rules.specs.Expected.{Fulfils}
use Rattle.diag_edge.specs.ErrorLines.{fault_line, above_line}
use Rattle.nnf_text.specs.GraphTexts as graphs
use Rattle.device_files.specs.declared.refusal.Refusal.{Refusal}
use Rattle.device_files.specs.declared.refusal.Refusal.TheVariants.{Fault, Header, Counts, Bits, Shared, Above, Sum, Memory}
use Rattle.device_files.specs.declared.status.Status.{Status}
use Rattle.device_files.specs.declared.status.Status.TheVariants.{Refused, AboveBudget, NoMemory}
use Rattle.device_files.specs.Output.{Output, says, no_memory, no_memory_line}
use Rattle.device_files.specs.Checking.{graph_fault_line}
use Rattle.device_files.specs.Weighing.{sum_line}

-- the line of a refusal
abbrev pub refusal_line : Refusal → List ℕ
refusal_line (Fault line number name) = fault_line line number name.now
refusal_line Header = graph_fault_line graphs.NoHeader
refusal_line (Counts said found) = graph_fault_line (graphs.Counts said found)
refusal_line (Bits bits) = graph_fault_line (graphs.TooLarge bits)
refusal_line (Shared node variable) = graph_fault_line (graphs.Shared node variable)
refusal_line (Above what count limit) = above_line what.now count limit
refusal_line (Sum budget) = sum_line budget
refusal_line Memory = no_memory_line

-- the status of a refusal
abbrev pub refusal_status : Refusal → Status
refusal_status (Sum budget) = AboveBudget
refusal_status Memory = NoMemory
refusal_status refusal = Refused

-- the output of a refusal; lack of memory is no refusal of the file
abbrev pub refusal_output : Refusal → Option Output
refusal_output Memory = None
refusal_output refusal = Some (says (refusal_line refusal) (refusal_status refusal))

abbrev pub or_memory : Option Output → Output
or_memory told = unwrap_or told no_memory

-- An `Ok` is what is expected, or a refusal has the expected output.
abbrev pub FulfilsOrRefuses : {A : Type 0} → Result A Output → Result A Refusal → Type 0
FulfilsOrRefuses expected result = Fulfils (λ found. found) refusal_output expected result
