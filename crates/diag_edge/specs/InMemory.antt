-- What the source, the shelf and the sink in memory show, whose bytes and failures are chosen.
use Rattle.std.specs.Prelude.{ℕ, ◌+◌, ◌-◌, ◌^◌, min, List, [], ◌∷◌, map, Contains, Vec, String, if◌then◌else◌, string_bytes}
use Rattle.std.specs.declared.alloc.Global.{Global}
use Rattle.std.specs.Str.{bytes_eq}
use Rattle.diag_edge.specs.Edge.{Holding, absent, holds}

-- one more, up to the greatest u64
abbrev pub one_more : ℕ → ℕ
one_more count = min (count + 1) (2 ^ 64 - 1)

-- calls, numbered from 1: the numbers of those that fail, and how many were made, at most the greatest u64
pub record Calls : Type 0 where
  pub failing : List ℕ
  pub made : ℕ

-- the next call fails
abbrev pub IsNextFailing : Calls → Type 0
IsNextFailing calls = Contains calls.failing (calls.made + 1)

-- the calls after one more; the same ones fail
abbrev pub after_call : Calls → Calls
after_call calls = record { failing = calls.failing; made = one_more calls.made }

-- no call was made yet
abbrev pub no_calls : List ℕ → Calls
no_calls failing = record { failing = failing; made = 0 }

-- a source in memory: the bytes still to come, the most that a read gives, the calls, and the counts of bytes handed out and of faults
pub record SourceInMemory : Type 0 where
  pub left : List ℕ
  pub piece : ℕ
  pub calls : Calls
  pub taken : ℕ
  pub faults : ℕ

-- a file and its name
pub record NamedFile : Type 0 where
  pub name : List ℕ
  pub bytes : List ℕ

-- a shelf in memory: its files, the bytes still to come, the calls, and the counts of bytes handed out and of faults
pub record ShelfInMemory : Type 0 where
  pub files : List NamedFile
  pub left : List ℕ
  pub calls : Calls
  pub taken : ℕ
  pub faults : ℕ

-- a sink in memory: the bytes accepted, how many it has room for, the most that a failing call keeps, the calls, and the count of faults
pub record SinkInMemory : Type 0 where
  pub got : List ℕ
  pub room : ℕ
  pub keep : ℕ
  pub calls : Calls
  pub faults : ℕ

-- pairs of a name and bytes, as files
abbrev pub named_files : List (String Global × Vec ℕ Global) → List NamedFile
named_files pairs = map (λ pair. record { name = string_bytes pair.0; bytes = pair.1.items }) pairs

-- what is held under a name: the first file with the name counts
abbrev pub held_in : List NamedFile → List ℕ → Holding
held_in [] name = absent
held_in (file ∷ files) name = if bytes_eq file.name name then holds file.bytes else held_in files name
