-- What a run writes, and the status that it ends with.
use Rattle.std.specs.Prelude.{◌≡◌, ◌≢◌, ◌⊎◌, ℕ, List, [], ◌∷◌, Option, Result, Ok, Err, codes}
use Rattle.std.specs.Fmt.{decimal}
use Rattle.text_rules.specs.Tokens.{spaced}
use Rattle.device_files.specs.declared.status.Status.{Status}
use Rattle.device_files.specs.declared.status.Status.TheVariants.{WriteFailed, NoMemory}
use Rattle.session_rules.specs.Items.{Item, Plain}
use Rattle.session_rules.specs.Spelling.{Writes, WritesPart}

pub record Output : Type 0 where
  pub items : List Item
  pub status : Status

-- one line and a status
abbrev pub says : List ℕ → Status → Output
says text status = record { items = Plain text ∷ []; status = status }

-- the line of something that has more bytes than it may have
abbrev pub too_long_line : List ℕ → ℕ → List ℕ
too_long_line what limit = spaced (codes "error:" ∷ what ∷ codes "above" ∷ decimal limit ∷ codes "bytes" ∷ [])

abbrev pub no_memory_line : List ℕ
no_memory_line = codes "error: memory\n"

-- memory ran out
abbrev pub no_memory : Output
no_memory = says no_memory_line NoMemory

-- ---- what was found, or an output that refuses it

-- goes on with what was found; an error stays
abbrev pub result_and_then : {A B E : Type 0} → (A → Result B E) → Result A E → Result B E
result_and_then next (Ok found) = next found
result_and_then next (Err error) = Err error

-- the output of what was found, or the one that refuses it
abbrev pub output_or_refusal : {A : Type 0} → (A → Output) → Result A Output → Output
output_or_refusal told (Ok found) = told found
output_or_refusal told (Err output) = output

-- ---- what a run gives

-- A run fulfils an output if it ends with its status and, if the sink shows what it writes, this spells the items of the output. If a write
-- failed, what it wrote begins such a text.
pub record FulfilsOutput (output : Output) (status : Status) (before after : Option (List ℕ)) : Type 0 where
  pub whole : status ≢ WriteFailed → (status ≡ output.status) × Writes before after output.items
  pub broken : status ≡ WriteFailed → WritesPart before after output.items

-- memory ran out, or the output was given
abbrev pub FulfilsOutputUnlessMemory : Output → Status → Option (List ℕ) → Option (List ℕ) → Type 0
FulfilsOutputUnlessMemory output status before after = FulfilsOutput no_memory status before after ⊎ FulfilsOutput output status before after
