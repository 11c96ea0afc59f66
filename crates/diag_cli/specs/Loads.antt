-- What is printed of an adder whose readings disagree with its design.
use Rattle.std.specs.Prelude.{ℕ, ◌-◌, Bool, false, List, [], ◌∷◌, length, take, Option, Some, None, Result, codes, slice_index_or}
use Rattle.text_rules.specs.Names.{Name}
use Rattle.state_rules.specs.Cases.{Case}
use Rattle.state_rules.specs.Systems.{System, least_cost, all_diagnoses}
use Rattle.device_model.specs.Devices.{Device}
use Rattle.device_model.specs.Diagnosis.{device_system}
use Rattle.bench_reader.specs.Netlists.{netlist}
use Rattle.session_rules.specs.Items.{Item, line}
use Rattle.session_rules.specs.Replies.{faulty_names}
use Rattle.adder_load.specs.Adders.{adder_text}
use Rattle.adder_load.specs.Readings.{adder_case}
use Rattle.device_files.specs.declared.status.Status.TheVariants.{Done}
use Rattle.device_files.specs.Output.{Output}
use Rattle.device_files.specs.Describing.{or_line, netlist_line}
use Rattle.device_files.specs.Choices.{Weighed, clauses_by}
use Rattle.device_files.specs.Weighing.{output_within}
use Rattle.device_files.specs.Inspecting.{count_line}
use Rattle.diag_cli.specs.declared.words.TheConstants.{DEFAULT_BUDGET}
use Rattle.diag_cli.specs.declared.loading.TheConstants.{LISTED_LIMIT}

-- a word, and the names of the faulty parts
abbrev pub names_line : List ℕ → List Name → List Bool → Item
names_line what parts state = line (what ∷ faulty_names parts state)

-- The first diagnoses: their cost, the first, their number, and the last; or the one word `inconsistent` if no state agrees.
abbrev pub listed_lines : List Name → Option ℕ → List (List Bool) → List Item
listed_lines parts None listed = line (codes "inconsistent" ∷ []) ∷ []
listed_lines parts (Some fewest) listed =
    count_line (codes "minimum") fewest ∷ names_line (codes "first") parts (slice_index_or listed 0 [])
    ∷ count_line (codes "listed") (length listed) ∷ names_line (codes "last") parts (slice_index_or listed (length listed - 1) []) ∷ []

-- the sizes, and the diagnoses of a case
abbrev pub summary_lines : System → ℕ → Case → List Item
summary_lines system clauses known =
    count_line (codes "parts") (length system.parts) ∷ count_line (codes "wires") (length system.wires) ∷ count_line (codes "clauses") clauses
    ∷ listed_lines system.parts (least_cost system known) (take LISTED_LIMIT (all_diagnoses system known))

-- the output for a device, by its clauses
abbrev pub summary_by : ℕ → Device → Weighed → Output
summary_by places device weighed = record { items = summary_lines (device_system device) (length weighed.list.clauses) (adder_case device places); status = Done }

-- that output, if the sum by the order of names is within the budget
abbrev pub summary_of : ℕ → Result Device Output → Output
summary_of places found = output_within DEFAULT_BUDGET (clauses_by false (λ list. None)) (summary_by places) found

-- the output for the adder of `places` places and its readings
abbrev pub loaded : ℕ → Output
loaded places = summary_of places (or_line netlist_line (netlist (adder_text places)))
