-- What is found of an adder's graph is what is printed of its device.
use Rattle.std.proofs.Common.{◌≡◌, ℕ, ◌-◌, ◌<◌, Bool, List, [], ◌∷◌, length, get_or, take, Option, Some, None, IfSome, refl, ap, ap₂, sym, ◌∙◌, arith, codes}
use Rattle.std.specs.Option.{option_map}
use Rattle.std.proofs.Math.Seq.{get_or-take}
use Rattle.std.proofs.lemmas.List.{length-map, length-take}
use Rattle.std.specs.Prelude.{Result}
use Rattle.text_rules.specs.Expected.{IsExpectedFault}
use Rattle.text_rules.specs.Names.{Name}
use Rattle.state_rules.specs.Cases.{Case}
use Rattle.state_rules.specs.Ranking.{diagnoses}
use Rattle.state_rules.specs.Systems.{least_cost, all_diagnoses}
use Rattle.state_rules.specs.Graphs.{Graph}
use Rattle.device_model.specs.Devices.{Device, part_names, part_costs}
use Rattle.device_model.specs.declared.component.Component.{Component}
use Rattle.device_model.specs.Diagnosis.{device_system}
use Rattle.conditioner.specs.Models.{models, least_under, diagnoses_under}
use Rattle.conditioner.specs.Evidence.{bits_of}
use Rattle.session_rules.specs.GraphSystems.{case_evidence}
use Rattle.session_rules.specs.CaseSizes.{IsCaseOf}
use Rattle.session_rules.proofs.Begun.{HaveSpellings}
use Rattle.session_rules.proofs.GraphMeaning.{same_consistent}
use Rattle.adder_load.specs.declared.sampling.Found.{Found}
use Rattle.adder_load.specs.Readings.{adder_case}
use Rattle.adder_load.proofs.Cases.{case_seen, case_held}
use Rattle.device_files.specs.declared.status.Status.{Status}
use Rattle.device_files.specs.Output.{Output, FulfilsOutput, FulfilsOutputUnlessMemory, output_or_refusal}
use Rattle.device_files.specs.Inspecting.{count_line}
use Rattle.device_files.specs.Refusals.{or_memory}
use Rattle.diag_cli.specs.declared.loading.TheConstants.{LISTED_LIMIT}
use Rattle.diag_cli.specs.declared.summing.Summary.{Summary}
use Rattle.diag_cli.specs.Loads.{names_line, listed_lines}
use Rattle.diag_cli.specs.inner.Loading.{if_found, IsSummaryOf}
use Rattle.diag_cli.specs.inner.Serving.{IsServable}

is_case : (device : Device) (places : ℕ) → IsCaseOf (device_system device) (adder_case device places)
is_case device places = (case_seen device places, case_held device places ∙ sym (length-map device.parts (λ (part : Component). part.name)))

within_limit : {A : Type 0} (limit : ℕ) (xs : List A) → 0 < limit → length (take limit xs) - 1 < limit
within_limit limit xs some = let long = length-take limit xs in grind (arith, long, some)

module _ (device : Device) (graph : Graph) (places : ℕ) (words costs : List ℕ) (is : IsServable device graph) (priced : costs ≡ part_costs device) (many : length costs ≡ length device.parts)
    (noted : words ≡ case_evidence graph.vars (adder_case device places)) where
  abbrev known : Case
  known = adder_case device places

  abbrev ds : List (List Bool)
  ds = all_diagnoses (device_system device) known

  states_are : models graph words (length costs) ≡ (device_system device).consistent known
  states_are = grind (arith, noted, many, length-map, same_consistent device graph is.meaning known (is_case device places))

  least_is : least_under graph words costs ≡ least_cost (device_system device) known
  least_is = grind (arith, priced, states_are)

  all_are : diagnoses_under graph words costs ≡ all_diagnoses (device_system device) known
  all_are = ap₂ diagnoses priced states_are

  listed_are : (parts : List Name) (found : Option Found) (first last : List ℕ) → option_map (λ f. f.fewest) found ≡ least_under graph words costs
      → IfSome found (λ f. f.listed ≡ length (take LISTED_LIMIT (diagnoses_under graph words costs)))
      → IfSome found (λ f. bits_of first ≡ get_or (diagnoses_under graph words costs) 0 [])
      → IfSome found (λ f. bits_of last ≡ get_or (diagnoses_under graph words costs) (f.listed - 1) [])
      → listed_lines parts (least_cost (device_system device) known) (take LISTED_LIMIT (all_diagnoses (device_system device) known)) ≡ if_found parts found first last
  listed_are parts None first last fewest listed one end = ap (λ o. listed_lines parts o (take LISTED_LIMIT ds)) (sym least_is ∙ sym fewest)
  listed_are parts (Some f) first last fewest listed one end =
      let count : length (take LISTED_LIMIT ds) ≡ f.listed = ap (λ all. length (take LISTED_LIMIT all)) (sym all_are) ∙ sym listed in
      let the_first : get_or (take LISTED_LIMIT ds) 0 [] ≡ bits_of first = get_or-take LISTED_LIMIT ds 0 [] (omega arith) ∙ (ap (λ all. get_or all 0 []) (sym all_are) ∙ sym one) in
      let the_last : get_or (take LISTED_LIMIT ds) (length (take LISTED_LIMIT ds) - 1) [] ≡ bits_of last =
      get_or-take LISTED_LIMIT ds (length (take LISTED_LIMIT ds) - 1) [] (within_limit LISTED_LIMIT ds (omega arith)) ∙ (ap₂ (λ all n. get_or all (n - 1) []) (sym all_are) count ∙ sym end) in
      ap (λ o. listed_lines parts o (take LISTED_LIMIT ds)) (sym least_is ∙ sym fewest)
      ∙ (λ i. count_line (codes "minimum") f.fewest ∷ names_line (codes "first") parts (the_first i) ∷ count_line (codes "listed") (count i) ∷ names_line (codes "last") parts (the_last i) ∷ [])

  -- so the summary of what was found is that of the device
  pub summary_is : (clauses : ℕ) (summary : Summary) (wires : List Name) → summary.parts.items ≡ part_names device.parts → wires ≡ device.wires → summary.wires ≡ length wires → summary.clauses ≡ clauses
      → option_map (λ f. f.fewest) summary.found ≡ least_under graph words costs
      → IfSome summary.found (λ f. f.listed ≡ length (take LISTED_LIMIT (diagnoses_under graph words costs)))
      → IfSome summary.found (λ f. bits_of summary.first.items ≡ get_or (diagnoses_under graph words costs) 0 [])
      → IfSome summary.found (λ f. bits_of summary.last.items ≡ get_or (diagnoses_under graph words costs) (f.listed - 1) [])
      → IsSummaryOf device clauses places summary
  summary_is clauses summary wires parts same counted said fewest listed one end =
      let lines = listed_are (part_names device.parts) summary.found summary.first.items summary.last.items fewest listed one end in
      let all_wires : length device.wires ≡ summary.wires = ap length (sym same) ∙ sym counted in
      (λ i. count_line (codes "parts") (length (part_names device.parts)) ∷ count_line (codes "wires") (all_wires i) ∷ count_line (codes "clauses") (sym said i) ∷ lines i)
      ∙ (λ i. count_line (codes "parts") (length (sym parts i)) ∷ count_line (codes "wires") summary.wires ∷ count_line (codes "clauses") summary.clauses ∷ if_found (sym parts i) summary.found summary.first.items summary.last.items)

-- each line after the sizes has a text
pub have_found : (parts : List Name) (found : Option Found) (first last : List ℕ) → HaveSpellings (if_found parts found first last)
have_found parts None first last = ((_, refl), tt)
have_found parts (Some f) first last = ((_, refl), ((_, refl), ((_, refl), ((_, refl), tt))))

-- ---- what is printed of a device, or without one

-- what refuses a device is printed
pub refusal_told : {A : Type 0} (told : A → Output) (fault : Option Output) (found : Result A Output) → IsExpectedFault fault found → IfSome fault (λ said. output_or_refusal told found ≡ said)
refusal_told told fault found is = grind arith

-- a refusal with an output that is printed
pub gives_told : (fault : Option Output) (output : Output) (status : Status) (a b : Option (List ℕ)) → IfSome fault (λ said. output ≡ said) → FulfilsOutput (or_memory fault) status a b → FulfilsOutputUnlessMemory output status a b
gives_told fault output status a b is said = grind arith

pub gives_summary : (output expected : Output) (status : Status) (a b : Option (List ℕ)) → expected ≡ output → FulfilsOutput output status a b → FulfilsOutputUnlessMemory expected status a b
gives_summary output expected status a b is said = grind arith

pub ruleset tells_load = (gives_told, gives_summary)
