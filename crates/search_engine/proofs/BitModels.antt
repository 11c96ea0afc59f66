-- The states of clauses under evidence if a variable has a bit too.
use Rattle.std.proofs.Common.{◌≡◌, ℕ, ◌-◌, ◌<◌, ◌≤◌, Bool, true, false, not, ◌&&◌, List, [], ◌++◌, length, get_or, set, Some, None, refl, ap, sym, ◌∙◌, arith, length-append}
use Rattle.std.proofs.Math.Bool.{and_assoc, and-false}
use Rattle.std.proofs.lemmas.List.{length-map, map-set}
use Rattle.state_rules.specs.Assignments.{assignment}
use Rattle.state_rules.specs.Bits.{bit_in, same_bit, lists_of_bits}
use Rattle.state_rules.specs.Cases.{agrees_at, agrees}
use Rattle.state_rules.specs.Ranking.{Test, states, passing}
use Rattle.state_rules.proofs.Cases.{agrees-place, agrees-set}
use Rattle.state_rules.proofs.Members.{bits_length, filter_same, any_same}
use Rattle.state_rules.proofs.Lists.{any-never, filter-never}
use Rattle.clause_encoder.specs.Clauses.{ClauseList, all_hold}
use Rattle.conditioner.specs.Evidence.{known_of, known}
use Rattle.conditioner.specs.Models.{fits_evidence}
use Rattle.clause_answers.specs.Questions.{has_model}

-- the states that pass a test with some bits of the other variables that make all clauses true
abbrev pub allowed : ClauseList → ℕ → Test → List (List Bool)
allowed cnf parts test = passing parts (has_model cnf test parts)

-- tests that agree on all bits of the variables allow the same states
allowed-same : (cnf : ClauseList) (parts : ℕ) (p q : Test) → parts ≤ cnf.vars → ((bits : List Bool) → length bits ≡ cnf.vars → p bits ≡ q bits)
    → allowed cnf parts p ≡ allowed cnf parts q
allowed-same cnf parts p q room agree = filter_same (has_model cnf p parts) (has_model cnf q parts) (states parts) (λ state m.
    any_same (λ others. p (state ++ others) && all_hold (assignment (state ++ others)) cnf.clauses) (λ others. q (state ++ others) && all_hold (assignment (state ++ others)) cnf.clauses) (lists_of_bits (cnf.vars - parts)) (λ others n.
    ap (λ b. b && all_hold (assignment (state ++ others)) cnf.clauses) (agree (state ++ others) (omega (arith, room, length-append state others, bits_length parts state m, bits_length (cnf.vars - parts) others n)))))

-- a test that nothing passes allows none
allowed-none : (cnf : ClauseList) (parts : ℕ) → allowed cnf parts (λ _. false) ≡ []
allowed-none cnf parts =
    filter_same (has_model cnf (λ _. false) parts) (λ _. false) (states parts) (λ state m. any-never (lists_of_bits (cnf.vars - parts))) ∙ filter-never (states parts)

-- no bit equals both `bit` and its negation
never_both : (bit b : Bool) → (same_bit (not bit) b && same_bit bit b) ≡ false
never_both true true = refl
never_both true false = refl
never_both false true = refl
never_both false false = refl

module _ (cnf : ClauseList) (evidence : List ℕ) (parts place : ℕ) (bit : Bool) (long : length evidence ≡ cnf.vars) (room : parts ≤ cnf.vars) (within : place < cnf.vars) where
  -- bits fit the evidence, and the one at `place` is `bit`
  abbrev pub has_bit : Test
  has_bit bits = fits_evidence evidence bits && same_bit bit (bit_in bits place)

  inside : (bits : List Bool) → length bits ≡ cnf.vars → place < length bits
  inside bits e = omega (arith, e, within)

  -- an open variable: the models under evidence that fixes it
  pub with_bit-open : (word : ℕ) → known_of word ≡ Some bit → get_or (known evidence) place None ≡ None → allowed cnf parts has_bit ≡ allowed cnf parts (fits_evidence (set evidence place word))
  with_bit-open word says e = allowed-same cnf parts has_bit (fits_evidence (set evidence place word)) room (λ bits l.
      agrees-set (known evidence) bits place bit (omega (arith, length-map evidence known_of, long, within)) (inside bits l) e
      ∙ ap (λ ks. agrees ks bits) (sym (map-set known_of evidence place word ∙ ap (set (known evidence) place) says)))

  -- all models, if the bit is known
  pub with_bit-known : get_or (known evidence) place None ≡ Some bit → allowed cnf parts has_bit ≡ allowed cnf parts (fits_evidence evidence)
  with_bit-known e = allowed-same cnf parts has_bit (fits_evidence evidence) room (λ bits l.
      sym (agrees-place (known evidence) bits place (inside bits l) ∙ ap (λ k. agrees (known evidence) bits && agrees_at k (bit_in bits place)) e))

  -- no models, if the other bit is known
  pub with_bit-other : get_or (known evidence) place None ≡ Some (not bit) → allowed cnf parts has_bit ≡ []
  with_bit-other e = allowed-same cnf parts has_bit (λ _. false) room (λ bits l.
      ap (λ b. b && same_bit bit (bit_in bits place)) (agrees-place (known evidence) bits place (inside bits l) ∙ ap (λ k. agrees (known evidence) bits && agrees_at k (bit_in bits place)) e)
      ∙ (and_assoc (agrees (known evidence) bits) (same_bit (not bit) (bit_in bits place)) (same_bit bit (bit_in bits place))
      ∙ (ap (λ b. agrees (known evidence) bits && b) (never_both bit (bit_in bits place)) ∙ and-false (agrees (known evidence) bits)))) ∙ allowed-none cnf parts
