-- Systems that an engine may answer about.
use Rattle.std.specs.Prelude.{◌≡◌, ◌≤◌, ◌+◌, ℕ, true, List, [], length, IfSome, is_some}
use Rattle.std.specs.Option.{option_map_or}
use Rattle.text_rules.specs.Names.{names_rise}
use Rattle.state_rules.specs.Cases.{Case}
use Rattle.state_rules.specs.Systems.{System, all_diagnoses}
use Rattle.device_model.specs.declared.limits.TheConstants.{PART_LIMIT, WIRE_LIMIT}
use Rattle.session_rules.specs.CaseSizes.{IsCaseOf}
use Rattle.session_rules.specs.Items.{Projected, LeastText}
use Rattle.session_rules.specs.Spelling.{Spelled}
use Rattle.session_rules.specs.CaseEvidence.{IsEvidence, case_of_evidence}

-- The texts of a system's graphs have their meaning. That of the diagnoses counts only if it is offered.
pub record HasGoodTexts (system : System) : Type 0 where
  pub dnnf : IfSome system.texts.dnnf (λ text. (known : Case) → IsCaseOf system known
      → Spelled (Projected (length system.parts) (system.consistent known)) (text known))
  pub least : system.extras.least ≡ true → IfSome system.texts.least (λ text. (known : Case) → IsCaseOf system known
      → Spelled (LeastText (length system.parts) (all_diagnoses system known)) (text known))

-- The names rise and are few, each part has a cost, and a graph that is written has a text, with its meaning.
pub record IsOffered (system : System) : Type 0 where
  pub parts_rise : names_rise system.parts ≡ true
  pub wires_rise : names_rise system.wires ≡ true
  pub few_parts : length system.parts ≤ PART_LIMIT
  pub few_wires : length system.wires ≤ WIRE_LIMIT
  pub costs : length system.costs ≡ length system.parts
  pub has_dnnf : system.graphs ≡ true → is_some system.texts.dnnf ≡ true
  pub has_least : system.extras.least ≡ true → is_some system.texts.least ≡ true
  pub texts : HasGoodTexts system

-- the text of the states that agree with a case, and that of its diagnoses
abbrev pub states_text : System → Case → List ℕ
states_text system known = option_map_or (λ text. text known) system.texts.dnnf []

abbrev pub diagnoses_text : System → Case → List ℕ
diagnoses_text system known = option_map_or (λ text. text known) system.texts.least []

-- the evidence is that of a case: a word for each part, then one for each wire
abbrev pub IsEvidenceOf : System → List ℕ → Type 0
IsEvidenceOf system evidence =
    IsEvidence (length system.parts) (length system.wires) (length system.parts + length system.wires) evidence

abbrev pub case_in : System → List ℕ → Case
case_in system evidence = case_of_evidence (length system.parts) (length system.wires) evidence
