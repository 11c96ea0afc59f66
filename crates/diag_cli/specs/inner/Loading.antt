-- What is printed of an adder, from what was found of it.
use Rattle.std.specs.Prelude.{◌≡◌, ℕ, List, [], ◌∷◌, length, Option, Some, None, Result, Ok, Err, codes, IfSome}
use Rattle.text_rules.specs.Names.{Name}
use Rattle.device_model.specs.Devices.{Device}
use Rattle.device_model.specs.Diagnosis.{device_system}
use Rattle.conditioner.specs.Evidence.{bits_of}
use Rattle.adder_load.specs.declared.sampling.Found.{Found}
use Rattle.adder_load.specs.Readings.{adder_case}
use Rattle.session_rules.specs.Items.{Item, line}
use Rattle.diag_cli.specs.declared.summing.Summary.{Summary}
use Rattle.device_files.specs.declared.status.Status.TheVariants.{Done}
use Rattle.device_files.specs.declared.refusal.Refusal.{Refusal}
use Rattle.device_files.specs.Output.{Output}
use Rattle.device_files.specs.Inspecting.{count_line}
use Rattle.diag_cli.specs.Loads.{names_line, summary_lines}
use Rattle.device_files.specs.Refusals.{refusal_output}

abbrev pub listed_items : List Name → Found → List ℕ → List ℕ → List Item
listed_items parts found first last =
    count_line (codes "minimum") found.fewest ∷ names_line (codes "first") parts (bits_of first)
    ∷ count_line (codes "listed") found.listed ∷ names_line (codes "last") parts (bits_of last) ∷ []

abbrev pub inconsistent_items : List Item
inconsistent_items = line (codes "inconsistent" ∷ []) ∷ []

abbrev pub if_found : List Name → Option Found → List ℕ → List ℕ → List Item
if_found parts None first last = inconsistent_items
if_found parts (Some found) first last = listed_items parts found first last

abbrev pub found_items : Summary → List Item
found_items summary = if_found summary.parts.items summary.found summary.first.items summary.last.items

abbrev pub summary_items : Summary → List Item
summary_items summary =
    count_line (codes "parts") (length summary.parts.items) ∷ count_line (codes "wires") summary.wires
    ∷ count_line (codes "clauses") summary.clauses ∷ found_items summary

abbrev pub summary_output : Summary → Output
summary_output summary = record { items = summary_items summary; status = Done }

-- both states have a word for each part
pub record IsInStep (summary : Summary) : Type 0 where
  pub first : length summary.first.items ≡ length summary.parts.items
  pub last : length summary.last.items ≡ length summary.parts.items

-- the summary has what is printed of a device with this many clauses and its readings
abbrev pub IsSummaryOf : Device → ℕ → ℕ → Summary → Type 0
IsSummaryOf device clauses places summary =
    summary_lines (device_system device) clauses (adder_case device places) ≡ summary_items summary

-- a summary gives the output, and so does a refusal other than lack of memory
abbrev pub Loads : Output → Result Summary Refusal → Type 0
Loads output (Ok summary) = output ≡ summary_output summary
Loads output (Err refusal) = IfSome (refusal_output refusal) (λ said. output ≡ said)
