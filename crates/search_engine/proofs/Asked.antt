-- The answers of the search under the words of a case.
use Rattle.std.proofs.Common.{◌≡◌, ◌∙◌, ◌+◌, ◌<◌, ◌≤◌, ℕ, Bool, true, List, Option, Some, length, replicate, not, map, get_or, ap, sym, subst}
use Rattle.text_rules.specs.Names.{Name, names_rise}
use Rattle.state_rules.specs.Bits.{bit_in}
use Rattle.state_rules.specs.Levels.{levels, levels_rest}
use Rattle.state_rules.specs.Ranking.{least, diagnoses, rest}
use Rattle.state_rules.specs.Verdicts.{verdict}
use Rattle.diagnosis_lister.specs.Listing.{step_of}
use Rattle.level_lister.specs.Listing.{level_step}
use Rattle.clause_encoder.specs.Clauses.{ClauseList}
use Rattle.device_model.specs.declared.limits.TheConstants.{PART_LIMIT, WIRE_LIMIT}
use Rattle.clause_answers.specs.Questions.{Question, models, least_under, least_with, diagnoses_under, later_levels}
use Rattle.clause_answers.specs.Questions.{blame_of as blame_by}
use Rattle.session_rules.specs.CaseEvidence.{IsEvidence}
use Rattle.session_rules.proofs.CaseEvidence.{words-of_case, zeros-are}
use Rattle.engines.specs.declared.listed.Listed.TheVariants.{Diagnoses, Levels}
use Rattle.engines.specs.Answers.{IsFirst, least_of, diagnoses_of, least_seen, later_states, next_after, top_of, blame_of}
use Rattle.engines.specs.Offered.{IsOffered}
use Rattle.search_engine.specs.Searched.{OnClauses, ClauseSubject, question_of, clause_system, about_of}
use Rattle.search_engine.specs.inner.Held.{IsSearched, subject_of, of_step, of_level_step}
use Rattle.search_engine.proofs.NextStates.{is_first, level_next, diagnosis_next}
use Rattle.search_engine.proofs.ProbedCases.{least_with-by_words}

module _ (parts wires : List Name) (search : Question) (top : Option ℕ) (known : List ℕ) (is : IsSearched (subject_of parts wires search top) known search.evidence) where
  abbrev shown_of : OnClauses
  shown_of = record { subject = subject_of parts wires search top; known = known }

  -- the search is asked about the case
  asked-is : search ≡ question_of (subject_of parts wires search top) (about_of shown_of).known
  asked-is = (λ i. record { cnf = search.cnf; costs = search.costs; evidence = (is.same ∙ sym (words-of_case (length parts) (length wires) search.cnf.vars known is.words)) i })

  states-of : models search ≡ (about_of shown_of).system.consistent (about_of shown_of).known
  states-of = ap models asked-is

  -- with what the engine shows
  module _ (now : OnClauses) (shown : record { subject = subject_of parts wires search top; known = known } ≡ now) where
    pub least-asked : least_under search ≡ least_of (about_of now)
    least-asked = ap (least search.costs) states-of ∙ ap (λ (e : OnClauses). least_of (about_of e)) shown

    pub diagnoses-asked : diagnoses_under search ≡ diagnoses_of (about_of now)
    diagnoses-asked = ap (diagnoses search.costs) states-of ∙ ap (λ (e : OnClauses). diagnoses_of (about_of e)) shown

    pub blame-asked : (part : ℕ) → blame_by search part ≡ blame_of (about_of now) part
    blame-asked part = ap (λ (states : List (List Bool)). verdict (map (λ state. not (bit_in state part)) states)) diagnoses-asked

    -- a part has a cost
    pub is_priced : (part : ℕ) → part < length now.subject.parts → part < length search.costs
    is_priced part within = subst (λ (n : ℕ). part < n) (sym is.costs) (subst (λ (e : OnClauses). part < length e.subject.parts) (sym shown) within)

    -- the least cost if the variable of a wire has a bit too
    pub seen-asked : (wire var : ℕ) (bit : Bool) → wire < length now.subject.wires → var ≡ length parts + wire + 1 → least_with search var bit ≡ least_seen (about_of now) wire bit
    seen-asked wire var bit within v =
        (λ i. least_with (record { cnf = search.cnf; costs = search.costs; evidence = is.same i }) (v i) bit)
        ∙ (least_with-by_words (subject_of parts wires search top) known is.costs is.words wire (subst (λ (e : OnClauses). wire < length e.subject.wires) (sym shown) within) bit
        ∙ ap (λ (e : OnClauses). least_seen (about_of e) wire bit) shown)

    -- the state that was found is the first later one, and that is what comes next
    pub first-asked : (state old : List Bool) → state ≡ get_or (diagnoses_under search) 0 old → IsFirst state (diagnoses_of (about_of now))
    first-asked state old e = is_first state old _ (e ∙ ap (λ (states : List (List Bool)). get_or states 0 old) diagnoses-asked)

    pub diagnosis-state : (point : Option (List Bool)) (state old : List Bool) → state ≡ get_or (rest (diagnoses_under search) point) 0 old
        → IsFirst state (later_states (about_of now).system Diagnoses (about_of now).known point)
    diagnosis-state point state old e = is_first state old _ (e ∙ ap (λ (states : List (List Bool)). get_or (rest states point) 0 old) diagnoses-asked)

    pub diagnosis-step : (point : Option (List Bool)) → of_step (step_of (models search) (rest (diagnoses_under search) point))
        ≡ next_after (about_of now).system Diagnoses (about_of now).known point
    diagnosis-step point =
        ap (λ (states : List (List Bool)). of_step (step_of states (rest (diagnoses search.costs states) point))) states-of
        ∙ (diagnosis_next (about_of shown_of).system search.costs ((about_of shown_of).system.consistent (about_of shown_of).known) (rest (diagnoses_of (about_of shown_of)) point)
        ∙ ap (λ (e : OnClauses). next_after (about_of e).system Diagnoses (about_of e).known point) shown)

    module _ (most : ℕ) (told : top ≡ Some most) where
      abbrev later : ℕ → List (List Bool) → Option (List Bool) → List (List Bool)
      later n states point = levels_rest search.costs (levels search.costs n states) point

      later-asked : (point : Option (List Bool)) → later_levels search most point ≡ later_states (about_of shown_of).system Levels (about_of shown_of).known point
      later-asked point = (λ i. later (top_of (sym told i)) (states-of i) point)

      pub level-state : (point : Option (List Bool)) (state old : List Bool) → state ≡ get_or (later_levels search most point) 0 old
          → IsFirst state (later_states (about_of now).system Levels (about_of now).known point)
      level-state point state old e =
          is_first state old _ (e ∙ (ap (λ (states : List (List Bool)). get_or states 0 old) (later-asked point)
          ∙ ap (λ (d : OnClauses). get_or (later_states (about_of d).system Levels (about_of d).known point) 0 old) shown))

      pub level_asked : (point : Option (List Bool)) → of_level_step (level_step search.costs (models search) (later_levels search most point))
          ≡ next_after (about_of now).system Levels (about_of now).known point
      level_asked point =
          (λ i. of_level_step (level_step search.costs (states-of i) (later-asked point i)))
          ∙ (level_next (about_of shown_of).system ((about_of shown_of).system.consistent (about_of shown_of).known) (later_states (about_of shown_of).system Levels (about_of shown_of).known point)
          ∙ ap (λ (d : OnClauses). next_after (about_of d).system Levels (about_of d).known point) shown)

-- a new engine, which knows nothing of its first case
pub begun : (parts wires : List Name) (costs : List ℕ) (cnf : ClauseList) (top : Option ℕ) → names_rise parts ≡ true → names_rise wires ≡ true → length parts ≤ PART_LIMIT
    → length wires ≤ WIRE_LIMIT → length costs ≡ length parts → length parts + length wires ≤ cnf.vars → (search : Question) → search ≡ record { cnf = cnf; costs = costs; evidence = replicate cnf.vars 0 }
    → (known : List ℕ) → known ≡ replicate cnf.vars 0 → IsSearched (subject_of parts wires search top) known search.evidence
begun parts wires costs cnf top parts_rise wires_rise few_parts few_wires long vars search asked known zeros =
    let words = subst (IsEvidence (length parts) (length wires) cnf.vars) (sym zeros) (zeros-are (length parts) (length wires) cnf.vars vars) in
    subst (λ (q : Question). IsSearched (subject_of parts wires q top) known q.evidence) (sym asked) (record {
      costs = long;
      vars = vars;
      few_parts = few_parts;
      few_wires = few_wires;
      parts_rise = parts_rise;
      wires_rise = wires_rise;
      words = words;
      same = sym zeros;
    })

-- the system is one that an engine may answer about
pub is_offered : (subject : ClauseSubject) (known evidence : List ℕ) → IsSearched subject known evidence → IsOffered (clause_system subject)
is_offered subject known evidence is = record {
  parts_rise = is.parts_rise;
  wires_rise = is.wires_rise;
  few_parts = is.few_parts;
  few_wires = is.few_wires;
  costs = is.costs;
  has_dnnf = λ e. absurd cc;
  has_least = λ e. absurd cc;
  texts = record { dnnf = tt; least = λ told. tt };
}
