-- The least cost of a graph if a wire has one more bit, under the words of a case.
use Rattle.std.proofs.Common.{◌≡◌, ℕ, ◌+◌, ◌-◌, ◌≤◌, ◌<◌, Bool, ◌&&◌, List, map, length, get_or, not, replicate, refl, ap, ap₂, sym, ◌∙◌, subst, Option, Some, None, arith}
use Rattle.std.proofs.lemmas.List.{get_or-append-add, get_or_append_left}
use Rattle.text_rules.specs.Names.{Name}
use Rattle.state_rules.specs.Bits.{bit_in, same_bit}
use Rattle.state_rules.specs.Cases.{Case}
use Rattle.state_rules.specs.Ranking.{Test, passing, least}
use Rattle.state_rules.specs.Graphs.{Graph}
use Rattle.conditioner.specs.Evidence.{known, known_of, word_of_known}
use Rattle.conditioner.specs.Models.{has_model, fits_evidence, models, least_with}
use Rattle.conditioner.proofs.ModelsWith.{with_bit-open, with_bit-known, with_bit-other}
use Rattle.session_rules.specs.Replies.{least_at, seen_at}
use Rattle.session_rules.specs.GraphSystems.{case_evidence, graph_system}
use Rattle.session_rules.specs.CaseEvidence.{case_of_evidence, IsEvidence}
use Rattle.session_rules.proofs.GraphMeaning.{known_of-word, known-case_evidence}
use Rattle.session_rules.proofs.CaseEvidence.{words-of_case, length-held, length-seen, room-in_words, wire-written}

module _ (parts wires : List Name) (costs : List ℕ) (graph : Graph) (vars : ℕ) (words : List ℕ) (priced : length costs ≡ length parts) (wide : graph.vars ≡ vars) (are : IsEvidence (length parts) (length wires) vars words)
    (wire : ℕ) (within : wire < length wires) where
  abbrev the_case : Case
  the_case = case_of_evidence (length parts) (length wires) words

  abbrev place : ℕ
  place = length parts + wire

  -- the bits fit the words, and the wire has a bit
  abbrev asked : Bool → Test
  asked bit bits = fits_evidence words bits && same_bit bit (bit_in bits place)

  room : length parts + length wires ≤ graph.vars
  room = subst (λ n. length parts + length wires ≤ n) (sym wide) (room-in_words (length parts) (length wires) vars words are)

  inside : place < graph.vars
  inside = omega (arith, room, within)

  narrow : length parts ≤ graph.vars
  narrow = omega (arith, room)

  -- the word of the wire says how it is seen
  pub word_there : get_or (known words) place None ≡ seen_at the_case wire
  word_there = grind (arith, known-case_evidence vars the_case, length-held (length parts) (length wires) vars words are, get_or-append-add, get_or_append_left the_case.seen (map known_of (replicate (vars - (length the_case.held + length the_case.seen)) 0)) None wire, length-seen (length parts) (length wires) vars words are)

  abbrev least_asked : Bool → Option ℕ
  least_asked bit = least costs (passing (length parts) (has_model graph (asked bit) (length parts)))

  abbrev told : Bool → Option Bool → Option ℕ
  told bit seen = least_at (graph_system parts wires costs graph) the_case wire bit seen

  -- an open wire has the bit in the states of the case with this bit
  asked-open : (bit : Bool) → seen_at the_case wire ≡ None → least_asked bit ≡ told bit None
  asked-open bit e =
      ap (least costs) (with_bit-open graph words (length parts) place bit (are.long ∙ sym wide) narrow inside (word_of_known (Some bit)) (known_of-word (Some bit)) (word_there ∙ e)
      ∙ ap (λ ws. models graph ws (length parts))
      (grind (arith, wire-written)))

  -- a wire seen as the bit has it in all states
  asked-same : (bit : Bool) → seen_at the_case wire ≡ Some bit → least_asked bit ≡ least costs (models graph (case_evidence graph.vars the_case) (length parts))
  asked-same bit e =
      ap (least costs) (with_bit-known graph words (length parts) place bit (are.long ∙ sym wide) narrow inside (word_there ∙ e)
      ∙ ap (λ ws. models graph ws (length parts)) (sym (words-of_case (length parts) (length wires) vars words are) ∙ ap (λ n. case_evidence n the_case) (sym wide)))

  -- a wire seen as the other bit has it in none
  asked-other : (bit : Bool) → seen_at the_case wire ≡ Some (not bit) → least_asked bit ≡ None
  asked-other bit e = ap (least costs) (with_bit-other graph words (length parts) place bit (are.long ∙ sym wide) narrow inside (word_there ∙ e))

  asked-told : (bit : Bool) (seen : Option Bool) → seen_at the_case wire ≡ seen → least_asked bit ≡ told bit seen
  asked-told bit seen e = grind (arith, asked-open, asked-same, asked-other)

  -- The least cost of a graph with a wire's bit is the answer to a probe.
  pub least_with-by_words : (bit : Bool) → least_with graph words costs (length parts + wire + 1) bit
      ≡ least_at (graph_system parts wires costs graph) (case_of_evidence (length parts) (length wires) words) wire bit (seen_at (case_of_evidence (length parts) (length wires) words) wire)
  least_with-by_words bit =
      let var : length parts + wire + 1 - 1 ≡ place = omega arith in
      ap₂ (λ n v. least costs (passing n (has_model graph (λ bits. fits_evidence words bits && same_bit bit (bit_in bits v)) n))) priced var
      ∙ asked-told bit (seen_at the_case wire) refl
