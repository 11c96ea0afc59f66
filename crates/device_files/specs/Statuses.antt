-- How a run ends, and the number that a process ends with.
use Rattle.std.specs.Prelude.{ℕ}
use Rattle.device_files.specs.declared.status.Status.{Status}
use Rattle.device_files.specs.declared.status.Status.TheVariants.{Done, Refused, Usage, AboveBudget, ReadFailed, WriteFailed, NoMemory, CutShort}

-- the number that the process ends with
abbrev pub number_of : Status → ℕ
number_of Done = 0
number_of Refused = 1
number_of Usage = 2
number_of AboveBudget = 3
number_of ReadFailed = 4
number_of WriteFailed = 5
number_of NoMemory = 6
number_of CutShort = 7
