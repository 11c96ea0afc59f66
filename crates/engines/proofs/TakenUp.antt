-- The words of a case in front of those of inner variables.
use Rattle.std.proofs.Common.{◌≡◌, ◌∙◌, ◌+◌, ◌-◌, ◌≤◌, ◌++◌, [], ℕ, List, length, take, drop, map, replicate, ap, sym, subst, arith, append_assoc, append-nil, length-append}
use Rattle.std.proofs.Math.Seq.{drop-append_seam}
use Rattle.std.proofs.lemmas.Grind.{common_steps}
use Rattle.std.proofs.lemmas.List.{length-drop, length-map}
use Rattle.state_rules.specs.Cases.{Case}
use Rattle.conditioner.specs.Evidence.{known, word_of_known}
use Rattle.session_rules.specs.GraphSystems.{case_evidence}
use Rattle.session_rules.specs.CaseEvidence.{case_of_evidence, IsEvidence}
use Rattle.session_rules.proofs.CaseEvidence.{words-of_case, room-in_words, length-held, length-seen}

-- the words of a case before those of inner variables
abbrev front : Case → List ℕ
front one = map word_of_known one.held ++ map word_of_known one.seen

seam : (xs ys : List ℕ) (n : ℕ) → n ≡ length xs → drop n (xs ++ ys) ≡ ys
seam xs ys n e = ap (λ k. drop k (xs ++ ys)) e ∙ drop-append_seam xs ys

module _ (parts wires : ℕ) (one : Case) (held : length one.held ≡ parts) (seen : length one.seen ≡ wires) where
  long : parts + wires ≡ length (front one)
  long = grind (arith, length-append, length-map)

  parted : (vars : ℕ) → case_evidence vars one ≡ front one ++ replicate (vars - (parts + wires)) 0
  parted vars = (λ i. map word_of_known one.held ++ (map word_of_known one.seen ++ replicate (vars - (held i + seen i)) 0)) ∙ sym (append_assoc (map word_of_known one.held) (map word_of_known one.seen) (replicate (vars - (parts + wires)) 0))

none_left : (n : ℕ) → replicate {A = ℕ} (n - n) 0 ≡ []
none_left n = let z : n - n ≡ 0 = omega arith in ap (λ k. replicate {A = ℕ} k 0) z

module _ (parts wires vars : ℕ) (words : List ℕ) (are : IsEvidence parts wires vars words) (evidence : List ℕ) (is : IsEvidence parts wires (parts + wires) evidence) where
  abbrev now : List ℕ
  now = evidence ++ drop (parts + wires) words

  abbrev the_case : Case
  the_case = case_of_evidence parts wires evidence

  same_parts : take parts now ≡ take parts evidence
  same_parts = grind (arith, common_steps, is.long)

  same_wires : take wires (drop parts now) ≡ take wires (drop parts evidence)
  same_wires = grind (arith, common_steps, is.long)

  pub says-case : case_of_evidence parts wires (evidence ++ drop (parts + wires) words) ≡ case_of_evidence parts wires evidence
  says-case = (λ i. record { seen = known (same_wires i); held = known (same_parts i) })

  -- the words after those of parts and wires are 0
  inner_words : drop (parts + wires) words ≡ replicate (vars - (parts + wires)) 0
  inner_words =
      let old = case_of_evidence parts wires words in
      let h = length-held parts wires vars words are in
      let s = length-seen parts wires vars words are in
      ap (drop (parts + wires)) (sym (words-of_case parts wires vars words are) ∙ parted parts wires old h s vars)
      ∙ seam (front old) (replicate (vars - (parts + wires)) 0) (parts + wires) (long parts wires old h s)

  whole : evidence ≡ front the_case
  whole =
      let h = length-held parts wires (parts + wires) evidence is in
      let s = length-seen parts wires (parts + wires) evidence is in
      sym (words-of_case parts wires (parts + wires) evidence is) ∙ parted parts wires the_case h s (parts + wires)
      ∙ ap (λ (zs : List ℕ). front the_case ++ zs) (none_left (parts + wires)) ∙ append-nil (front the_case)

  is_case : now ≡ case_evidence vars the_case
  is_case =
      let h = length-held parts wires (parts + wires) evidence is in
      let s = length-seen parts wires (parts + wires) evidence is in
      (λ i. whole i ++ inner_words i) ∙ sym (parted parts wires the_case h s vars)

  is_long : length now ≡ vars
  is_long = let room = room-in_words parts wires vars words are in grind (arith, length-append, length-drop, are.long, is.long)

  pub taken-are : IsEvidence parts wires vars (evidence ++ drop (parts + wires) words)
  taken-are = record {
    long = is_long;
    small = grind (arith, common_steps, is.small, are.small);
    case = record {
      room = subst (λ n. parts + wires ≤ n) (sym is_long) (room-in_words parts wires vars words are);
      same = (λ i. case_evidence (is_long i) (says-case i)) ∙ sym is_case;
    };
  }
