-- The least cost of clauses if a wire has one more bit, under the words of a case.
use Rattle.std.proofs.Common.{◌≡◌, ℕ, ◌+◌, ◌-◌, ◌≤◌, ◌<◌, Bool, ◌&&◌, List, map, length, get_or, not, replicate, refl, ap, sym, ◌∙◌, Option, Some, None, arith}
use Rattle.std.proofs.lemmas.List.{get_or-append-add, get_or_append_left}
use Rattle.state_rules.specs.Bits.{bit_in, same_bit}
use Rattle.state_rules.specs.Cases.{Case}
use Rattle.state_rules.specs.Ranking.{Test, least}
use Rattle.conditioner.specs.Evidence.{known, known_of, word_of_known}
use Rattle.conditioner.specs.Models.{fits_evidence}
use Rattle.clause_answers.specs.Questions.{least_with}
use Rattle.session_rules.specs.Replies.{least_at, seen_at}
use Rattle.session_rules.specs.GraphSystems.{case_evidence}
use Rattle.session_rules.specs.CaseEvidence.{case_of_evidence, IsEvidence}
use Rattle.session_rules.proofs.GraphMeaning.{known_of-word, known-case_evidence}
use Rattle.session_rules.proofs.CaseEvidence.{words-of_case, length-held, length-seen, room-in_words, wire-written}
use Rattle.search_engine.specs.Searched.{ClauseSubject, clause_system}
use Rattle.search_engine.proofs.BitModels.{allowed, with_bit-open, with_bit-known, with_bit-other}

module _ (subject : ClauseSubject) (words : List ℕ) (priced : length subject.costs ≡ length subject.parts) (are : IsEvidence (length subject.parts) (length subject.wires) subject.cnf.vars words)
    (wire : ℕ) (within : wire < length subject.wires) where
  abbrev parts : ℕ
  parts = length subject.parts

  abbrev wires : ℕ
  wires = length subject.wires

  abbrev the_case : Case
  the_case = case_of_evidence parts wires words

  abbrev place : ℕ
  place = parts + wire

  -- the bits fit the words, and the wire has a bit
  abbrev asked : Bool → Test
  asked bit bits = fits_evidence words bits && same_bit bit (bit_in bits place)

  room : parts + wires ≤ subject.cnf.vars
  room = room-in_words parts wires subject.cnf.vars words are

  inside : place < subject.cnf.vars
  inside = omega (arith, room, within)

  narrow : length subject.costs ≤ subject.cnf.vars
  narrow = omega (arith, room, priced)

  -- the word of the wire says how it is seen
  word_there : get_or (known words) place None ≡ seen_at the_case wire
  word_there = grind (arith, known-case_evidence subject.cnf.vars the_case, words-of_case parts wires subject.cnf.vars words are, length-held parts wires subject.cnf.vars words are, get_or-append-add, get_or_append_left the_case.seen (map known_of (replicate (subject.cnf.vars - (length the_case.held + length the_case.seen)) 0)) None wire, length-seen parts wires subject.cnf.vars words are)

  abbrev least_asked : Bool → Option ℕ
  least_asked bit = least subject.costs (allowed subject.cnf (length subject.costs) (asked bit))

  abbrev least_by : List ℕ → Option ℕ
  least_by evidence = least subject.costs (allowed subject.cnf (length subject.costs) (fits_evidence evidence))

  abbrev told : Bool → Option Bool → Option ℕ
  told bit seen = least_at (clause_system subject) the_case wire bit seen

  -- an open wire has the bit in the states of the case with this bit
  asked-open : (bit : Bool) → seen_at the_case wire ≡ None → least_asked bit ≡ told bit None
  asked-open bit e =
      ap (least subject.costs) (with_bit-open subject.cnf words (length subject.costs) place bit are.long narrow inside (word_of_known (Some bit)) (known_of-word (Some bit)) (word_there ∙ e))
      ∙ ap least_by (wire-written parts wires subject.cnf.vars words are wire within (Some bit))

  -- a wire seen as the bit has it in all states
  asked-same : (bit : Bool) → seen_at the_case wire ≡ Some bit → least_asked bit ≡ least_by (case_evidence subject.cnf.vars the_case)
  asked-same bit e =
      ap (least subject.costs) (with_bit-known subject.cnf words (length subject.costs) place bit are.long narrow inside (word_there ∙ e))
      ∙ ap least_by (sym (words-of_case parts wires subject.cnf.vars words are))

  -- a wire seen as the other bit has it in none
  asked-other : (bit : Bool) → seen_at the_case wire ≡ Some (not bit) → least_asked bit ≡ None
  asked-other bit e = ap (least subject.costs) (with_bit-other subject.cnf words (length subject.costs) place bit are.long narrow inside (word_there ∙ e))

  asked-told : (bit : Bool) (seen : Option Bool) → seen_at the_case wire ≡ seen → least_asked bit ≡ told bit seen
  asked-told bit seen e = grind (arith, asked-open, asked-same, asked-other)

  -- The least cost of clauses with a wire's bit is the answer to a probe.
  pub least_with-by_words : (bit : Bool) → least_with (record { cnf = subject.cnf; costs = subject.costs; evidence = words }) (length subject.parts + wire + 1) bit
      ≡ least_at (clause_system subject) (case_of_evidence (length subject.parts) (length subject.wires) words) wire bit (seen_at (case_of_evidence (length subject.parts) (length subject.wires) words) wire)
  least_with-by_words bit =
      let back : length subject.parts + wire + 1 - 1 ≡ place = omega arith in
      ap (λ v. least subject.costs (allowed subject.cnf (length subject.costs) (λ bits. fits_evidence words bits && same_bit bit (bit_in bits v)))) back
      ∙ asked-told bit (seen_at the_case wire) refl
