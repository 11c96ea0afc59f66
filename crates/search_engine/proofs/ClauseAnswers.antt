-- Over clauses that describe which bits fit, every script has the replies that it has over what fits.
use Rattle.std.proofs.Common.{◌≡◌, ℕ, ◌+◌, ◌-◌, ◌≤◌, Bool, ◌&&◌, List, ◌++◌, length, ap, sym, ◌∙◌, Option, false, arith, append_assoc}
use Rattle.std.specs.List.{list_any}
use Rattle.std.proofs.Math.Bool.{and_assoc}
use Rattle.text_rules.specs.Names.{Name}
use Rattle.state_rules.specs.Assignments.{assignment}
use Rattle.state_rules.specs.Bits.{lists_of_bits}
use Rattle.state_rules.specs.Cases.{Case, agrees}
use Rattle.state_rules.specs.Ranking.{Test, passing}
use Rattle.state_rules.specs.Systems.{System, with_extras}
use Rattle.clause_encoder.specs.Clauses.{ClauseList, all_hold}
use Rattle.clause_encoder.specs.Encoding.{DescribesBy}
use Rattle.device_model.specs.Diagnosis.{is_consistent, fitting_system}
use Rattle.conditioner.specs.Models.{fits_evidence}
use Rattle.clause_answers.specs.Questions.{has_model}
use Rattle.session_rules.specs.GraphSystems.{case_evidence}
use Rattle.session_rules.specs.CaseSizes.{IsCaseOf, HasCasesOf}
use Rattle.session_rules.specs.Sessions.{Table, replies}
use Rattle.session_rules.proofs.GraphMeaning.{fits-case_evidence}
use Rattle.session_rules.proofs.Enumerated.{Agree, passing-same, any-same, any-split, any-and}
use Rattle.session_rules.proofs.Same.{replies-same}
use Rattle.search_engine.specs.Searched.{ClauseSubject, clause_system}

module _ (parts wires : List Name) (costs : List ℕ) (fits_by : List Bool → List Bool → Bool) (cnf : ClauseList) (levels : Option ℕ) (long : length costs ≡ length parts)
    (enough : length parts + length wires ≤ cnf.vars) (describes : DescribesBy cnf (length parts) (length wires) fits_by) where
  abbrev subject : ClauseSubject
  subject = record { parts = parts; wires = wires; costs = costs; cnf = cnf; levels = levels }

  -- what fits, with the same extras and no graphs
  abbrev fitting : System
  fitting = record (with_extras (record { levels = levels; least = false }) (fitting_system parts wires costs fits_by)) { graphs = false }

  module _ (known : Case) (case : IsCaseOf (clause_system subject) known) where
    abbrev words : List ℕ
    words = case_evidence cnf.vars known

    abbrev inner_count : ℕ
    inner_count = cnf.vars - (length parts + length wires)

    abbrev all_true : Test
    all_true bits = all_hold (assignment bits) cnf.clauses

    -- the bits fit the words and make all clauses true
    abbrev is_model : Test
    is_model bits = fits_evidence words bits && all_true bits

    abbrev agreeing : Test
    agreeing = is_consistent fits_by (length wires) known

    for_wires : (state bits : List Bool) → length state ≡ length parts → length bits ≡ length wires
        → list_any (λ inner. is_model (state ++ (bits ++ inner))) (lists_of_bits inner_count)
        ≡ (agrees known.held state && (agrees known.seen bits && fits_by state bits))
    for_wires state bits states all =
        let held : length known.held ≡ length state = case.1 ∙ sym states in
        let seen : length known.seen ≡ length bits = case.0 ∙ sym all in
        let agreed : Bool = agrees known.held state && agrees known.seen bits in
        (λ j. list_any (λ inner. fits-case_evidence cnf.vars known state bits inner held seen j && all_true (state ++ (bits ++ inner))) (lists_of_bits inner_count))
        ∙ any-and agreed (λ inner. all_true (state ++ (bits ++ inner))) (lists_of_bits inner_count)
        ∙ (λ j. agreed && list_any (λ inner. all_true (sym (append_assoc state bits inner) j)) (lists_of_bits inner_count))
        ∙ ap (λ b. agreed && b) (describes state bits states all)
        ∙ and_assoc (agrees known.held state) (agrees known.seen bits) (fits_by state bits)

    for_state : Agree (length parts) (has_model cnf (fits_evidence words) (length parts)) agreeing
    for_state state states =
        let parted : cnf.vars - length parts ≡ length wires + inner_count = omega (arith, enough) in
        let of_wires : Test = λ bits. agrees known.held state && (agrees known.seen bits && fits_by state bits) in
        ap (λ n. list_any (λ others. is_model (state ++ others)) (lists_of_bits n)) parted
        ∙ any-split (length wires) inner_count (λ others. is_model (state ++ others))
        ∙ any-same (length wires) (λ bits. list_any (λ inner. is_model (state ++ (bits ++ inner))) (lists_of_bits inner_count)) of_wires
        (λ bits all. for_wires state bits states all)
        ∙ any-and (agrees known.held state) (λ bits. agrees known.seen bits && fits_by state bits) (lists_of_bits (length wires))

    -- the states of each case are those that fit
    same_states : (clause_system subject).consistent known ≡ (fitting_system parts wires costs fits_by).consistent known
    same_states =
        ap (λ n. passing n (has_model cnf (fits_evidence words) n)) long
        ∙ passing-same (length parts) (has_model cnf (fits_evidence words) (length parts)) agreeing for_state

  pub clause_replies : (limit : ℕ) (table : Table) (lines : List (List ℕ)) → HasCasesOf (fitting_system parts wires costs fits_by) table
      → replies (clause_system (record { parts = parts; wires = wires; costs = costs; cnf = cnf; levels = levels })) limit table lines
      ≡ replies (record (with_extras (record { levels = levels; least = false }) (fitting_system parts wires costs fits_by)) { graphs = false }) limit table lines
  clause_replies limit table lines cases = replies-same (clause_system subject) (fitting_system parts wires costs fits_by).consistent same_states limit table lines cases
