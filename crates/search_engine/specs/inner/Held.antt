-- What a search engine holds, and its answers.
use Rattle.std.specs.Prelude.{◌≡◌, ℕ, ◌+◌, ◌≤◌, true, Option, Some, None, List, length}
use Rattle.text_rules.specs.Names.{Name, names_rise}
use Rattle.device_model.specs.declared.limits.TheConstants.{PART_LIMIT, WIRE_LIMIT}
use Rattle.diagnosis_lister.specs.declared.listing.Step.{Step}
use Rattle.diagnosis_lister.specs.declared.listing.Step.TheVariants as step
use Rattle.level_lister.specs.declared.levels.LevelStep.{LevelStep}
use Rattle.level_lister.specs.declared.levels.LevelStep.TheVariants as level
use Rattle.session_rules.specs.CaseEvidence.{IsEvidence}
use Rattle.engines.specs.declared.listed.NextState.{NextState}
use Rattle.engines.specs.declared.listed.NextState.TheVariants.{Found, End, Inconsistent}
use Rattle.clause_answers.specs.Questions.{Question}
use Rattle.search_engine.specs.Searched.{ClauseSubject}

-- the subject of these names and of the question of a search
abbrev pub subject_of : List Name → List Name → Question → Option ℕ → ClauseSubject
subject_of parts wires asked levels = record { parts = parts; wires = wires; costs = asked.costs; cnf = asked.cnf; levels = levels }

-- Each part has a name and a cost, all are few, and the clauses have variables for parts and wires. The words of a case are those that the
-- search knows.
pub record IsSearched (subject : ClauseSubject) (known evidence : List ℕ) : Type 0 where
  pub costs : length subject.costs ≡ length subject.parts
  pub vars : length subject.parts + length subject.wires ≤ subject.cnf.vars
  pub few_parts : length subject.parts ≤ PART_LIMIT
  pub few_wires : length subject.wires ≤ WIRE_LIMIT
  pub parts_rise : names_rise subject.parts ≡ true
  pub wires_rise : names_rise subject.wires ≡ true
  pub words : IsEvidence (length subject.parts) (length subject.wires) subject.cnf.vars known
  pub same : evidence ≡ known

-- what comes next, from the answer of the search
abbrev pub of_step : Step → NextState
of_step step.Found = Found None
of_step step.End = End
of_step step.Inconsistent = Inconsistent

abbrev pub of_level_step : LevelStep → NextState
of_level_step (level.Found cost) = Found (Some cost)
of_level_step level.End = End
of_level_step level.Inconsistent = Inconsistent
