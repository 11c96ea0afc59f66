-- The graph of a device answers for it, whatever its variables are called.
use Rattle.std.proofs.Common.{◌≡◌, ℕ, ◌+◌, ◌-◌, Bool, List, ◌++◌, map, length, replicate, ap, ap₂, sym, subst, ◌∙◌, Option, None, arith, append-nil, length-append}
use Rattle.std.specs.Prelude.{Ok}
use Rattle.std.proofs.lemmas.List.{map-append, length-map, length-replicate}
use Rattle.state_rules.specs.Cases.{Case}
use Rattle.state_rules.specs.Ranking.{least, diagnoses, plain_costs, rest}
use Rattle.state_rules.specs.Graphs.{Graph}
use Rattle.nnf_text.specs.GraphTexts.{Parsed, parsed}
use Rattle.device_model.specs.declared.component.Component.{Component}
use Rattle.device_model.specs.Devices.{Device, part_names, part_costs}
use Rattle.device_model.specs.Diagnosis.{device_system}
use Rattle.conditioner.specs.Evidence.{word_of_known}
use Rattle.conditioner.specs.Models.{models}
use Rattle.session_rules.specs.CaseSizes.{IsCaseOf}
use Rattle.session_rules.specs.GraphSystems.{case_evidence}
use Rattle.session_rules.specs.Items.{Whole}
use Rattle.session_rules.specs.Spelling.{Spelled, IsWholeOf, IsGraphOf}
use Rattle.session_rules.proofs.GraphMeaning.{same_consistent}
use Rattle.session_rules.proofs.CaseEvidence.{unseen-words}
use Rattle.nnf_ask.specs.Asking.{asked_system}
use Rattle.nnf_ask.specs.Alike.{case_among, AreAlike}
use Rattle.nnf_ask.proofs.VariableNames.{length-variable_names}

-- if a text spells the whole graph of a device, its graph means the device
pub graph_meant : (device : Device) (vars most : ℕ) (text : List ℕ) (graph : Graph) → Spelled (Whole device vars most) text → parsed text ≡ Ok graph → IsGraphOf device graph
graph_meant device vars most text graph spelled read =
    let is : IsWholeOf device vars most (Ok graph) = subst (λ (p : Parsed). IsWholeOf device vars most p) read spelled.1 in
    is.3

-- a case has the same evidence over more variables
same_words : (vars : ℕ) (known : Case) → case_evidence vars (case_among vars known) ≡ case_evidence vars known
same_words vars known =
    let count : ℕ = vars - (length known.held + length known.seen) in
    let more : List (Option Bool) = replicate count None in
    let long : length (known.seen ++ more) ≡ length known.seen + count = length-append known.seen more ∙ ap (λ n. length known.seen + n) (length-replicate {A = Option Bool} count None) in
    let none : vars - (length known.held + length (known.seen ++ more)) ≡ 0 = omega (arith, long) in
    ap (λ ws. map word_of_known known.held ++ ws)
    (ap (λ n. map word_of_known (known.seen ++ more) ++ replicate n 0) none
    ∙ append-nil (map word_of_known (known.seen ++ more))
    ∙ map-append word_of_known known.seen more
    ∙ ap (λ ws. map word_of_known known.seen ++ ws) (unseen-words count))

module _ (device : Device) (graph : Graph) (is : IsGraphOf device graph) (known : Case) (case : IsCaseOf (device_system device) known) where
  named : length (part_names device.parts) ≡ length device.parts
  named = length-map device.parts (λ (part : Component). part.name)

  abbrev parts : ℕ
  parts = length device.parts

  -- it is a case of the asked system
  pub case_fits : IsCaseOf (asked_system parts graph) (case_among graph.vars known)
  case_fits =
      let count : ℕ = graph.vars - (length known.held + length known.seen) in
      let more : List (Option Bool) = replicate count None in
      let long : length (known.seen ++ more) ≡ length known.seen + count = length-append known.seen more ∙ ap (λ n. length known.seen + n) (length-replicate {A = Option Bool} count None) in
      let room = is.room in
      let held : length known.held ≡ parts = case.1 ∙ named in
      let seen = case.0 in (
        omega (arith, long, room, held, seen, length-variable_names (parts + 1) (graph.vars - parts)),
        held ∙ sym (length-variable_names 1 parts),
      )

  states_alike : (asked_system parts graph).consistent (case_among graph.vars known) ≡ (device_system device).consistent known
  states_alike =
      ap₂ (λ ws n. models graph ws n) (same_words graph.vars known) (length-variable_names 1 parts ∙ sym named)
      ∙ same_consistent device graph is known case

  pub are_alike : part_costs device ≡ plain_costs parts → AreAlike (asked_system parts graph) (device_system device) (case_among graph.vars known) known
  are_alike costs =
      let found : diagnoses (plain_costs parts) ((asked_system parts graph).consistent (case_among graph.vars known)) ≡ diagnoses (part_costs device) ((device_system device).consistent known)
      = ap₂ diagnoses (sym costs) states_alike in
      record {
        states = states_alike;
        least = ap₂ least (sym costs) states_alike;
        diagnoses = found;
        later = λ point. ap (λ ds. rest ds point) found;
      }
