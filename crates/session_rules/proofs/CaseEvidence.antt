-- What words say of a case, and its change if one of them is written.
use Rattle.std.proofs.Common.{◌≡◌, ℕ, zero, suc, ◌+◌, ◌-◌, ◌≤◌, ◌<◌, Bool, List, [], ◌∷◌, ◌++◌, map, length, replicate, take, refl, ap, sym, ◌∙◌, subst, Option, None, arith, set, length-append}
use Rattle.std.proofs.Math.Seq.{drop-append_seam, take-append_seam}
use Rattle.std.proofs.lemmas.List.{length-map, length-set, length-replicate, length-drop, length-take-le, map-set, set-append_left, replicate-append-replicate}
use Rattle.std.proofs.lemmas.List.Elements.{All-replicate, All-set}
use Rattle.state_rules.specs.Cases.{Case, empty_case}
use Rattle.conditioner.specs.Evidence.{known_of, word_of_known}
use Rattle.session_rules.specs.GraphSystems.{case_evidence}
use Rattle.session_rules.specs.CaseEvidence.{case_of_evidence, IsCaseEvidence, IsEvidence}
use Rattle.session_rules.proofs.GraphMeaning.{all_known}

set_behind : {A : Type 0} (xs ys : List A) (i : ℕ) (y : A) → set (xs ++ ys) (length xs + i) y ≡ xs ++ set ys i y
set_behind [] ys i y = ap (λ n. set ys n y) (omega arith)
set_behind (x ∷ xs) ys i y = grind (arith, set_behind xs ys i y)

-- the words of what is not known are 0
pub unseen-words : (n : ℕ) → map word_of_known (replicate n None) ≡ replicate n 0
unseen-words zero = refl
unseen-words (suc n) = ap (λ ws. 0 ∷ ws) (unseen-words n)

small_word : (k : Option Bool) → word_of_known k < 3
small_word k = grind arith

module _ (vars : ℕ) where
  -- the words after those of parts and wires
  abbrev inner : ℕ → ℕ → List ℕ
  inner parts wires = replicate (vars - (parts + wires)) 0

  -- a wire is seen, or no longer
  words-seen : (known : Case) (wire : ℕ) (k : Option Bool) → wire < length known.seen
      → set (case_evidence vars known) (length known.held + wire) (word_of_known k) ≡ case_evidence vars (record known { seen = set known.seen wire k })
  words-seen known wire k l = grind (arith, length-map, set_behind, set-append_left, map-set, length-set)

  -- a part is held, or no longer
  words-held : (known : Case) (part : ℕ) (k : Option Bool) → part < length known.held
      → set (case_evidence vars known) part (word_of_known k) ≡ case_evidence vars (record known { held = set known.held part k })
  words-held known part k l = grind (arith, length-map, set-append_left, map-set, length-set)

  -- a session opens with all words 0
  words-new : (parts wires : ℕ) → parts + wires ≤ vars → case_evidence vars (empty_case wires parts) ≡ replicate vars 0
  words-new parts wires room = grind (arith, length-replicate, unseen-words, replicate-append-replicate)

  -- the words of a case say it
  words-say : (parts wires : ℕ) (known : Case) → length known.held ≡ parts → length known.seen ≡ wires → case_of_evidence parts wires (case_evidence vars known) ≡ known
  words-say parts wires known e d = grind (arith, length-map, take-append_seam, drop-append_seam, all_known)

  -- a case has a word for each variable
  pub length-case_evidence : (known : Case) → length known.held + length known.seen ≤ vars → length (case_evidence vars known) ≡ vars
  length-case_evidence known room = grind (arith, length-append, length-map, length-replicate)

  -- the words of a case are its evidence
  case_evidence-are : (parts wires : ℕ) (known : Case) → length known.held ≡ parts → length known.seen ≡ wires → parts + wires ≤ vars → IsCaseEvidence parts wires (case_evidence vars known)
  case_evidence-are parts wires known e d room = grind (arith, length-case_evidence, words-say)

-- ---- words all 0

-- they say that nothing is known
pub zeros-say : (parts wires vars : ℕ) → parts + wires ≤ vars → case_of_evidence parts wires (replicate vars 0) ≡ empty_case wires parts
zeros-say parts wires vars room =
    ap (case_of_evidence parts wires) (sym (words-new vars parts wires room))
    ∙ words-say vars parts wires (empty_case wires parts) (length-replicate {A = Option Bool} parts None) (length-replicate {A = Option Bool} wires None)

pub zeros-are : (parts wires vars : ℕ) → parts + wires ≤ vars → IsEvidence parts wires vars (replicate vars 0)
zeros-are parts wires vars room = record {
  long = length-replicate vars 0;
  small = All-replicate (λ w. w < 3) vars 0 (omega arith);
  case = subst (IsCaseEvidence parts wires) (words-new vars parts wires room)
      (case_evidence-are vars parts wires (empty_case wires parts) (length-replicate {A = Option Bool} parts None) (length-replicate {A = Option Bool} wires None) room);
}

-- ---- words of a case

module _ (parts wires vars : ℕ) (words : List ℕ) (are : IsEvidence parts wires vars words) where
  abbrev the_case : Case
  the_case = case_of_evidence parts wires words

  -- they are the words of the case that they say
  pub words-of_case : case_evidence vars (case_of_evidence parts wires words) ≡ words
  words-of_case = ap (λ n. case_evidence n the_case) (sym are.long) ∙ are.case.same

  pub room-in_words : parts + wires ≤ vars
  room-in_words = subst (λ n. parts + wires ≤ n) are.long are.case.room

  -- this case has a place for each part and each wire
  pub length-held : length (case_of_evidence parts wires words).held ≡ parts
  length-held = length-map (take parts words) known_of ∙ length-take-le parts words (let room = are.case.room in omega (arith, room))

  pub length-seen : length (case_of_evidence parts wires words).seen ≡ wires
  length-seen = grind (arith, length-map, length-take-le, length-drop)

  -- written words are evidence if they are that of a case
  written-are : (place : ℕ) (k : Option Bool) (after : Case) → set words place (word_of_known k) ≡ case_evidence vars after → length after.held ≡ parts → length after.seen ≡ wires
      → IsEvidence parts wires vars (set words place (word_of_known k))
  written-are place k after written held seen = record {
    long = length-set words place (word_of_known k) ∙ are.long;
    small = All-set (λ w. w < 3) words place (word_of_known k) (small_word k) are.small;
    case = subst (IsCaseEvidence parts wires) (sym written) (case_evidence-are vars parts wires after held seen room-in_words);
  }

  -- If a wire's word is written
  module _ (wire : ℕ) (within : wire < wires) (k : Option Bool) where
    abbrev case_seen : Case
    case_seen = record the_case { seen = set the_case.seen wire k }

    pub wire-written : set words (parts + wire) (word_of_known k) ≡ case_evidence vars (record (case_of_evidence parts wires words) { seen = set (case_of_evidence parts wires words).seen wire k })
    wire-written = grind (arith, length-held, words-seen vars the_case wire k, length-seen)

    -- it says what is seen of the wire
    pub wire-says : case_of_evidence parts wires (set words (parts + wire) (word_of_known k)) ≡ record (case_of_evidence parts wires words) { seen = set (case_of_evidence parts wires words).seen wire k }
    wire-says = ap (case_of_evidence parts wires) wire-written ∙ words-say vars parts wires case_seen length-held (length-set the_case.seen wire k ∙ length-seen)

    pub wire-are : IsEvidence parts wires vars (set words (parts + wire) (word_of_known k))
    wire-are = written-are (parts + wire) k case_seen wire-written length-held (length-set the_case.seen wire k ∙ length-seen)

  -- If a part's word is written
  module _ (part : ℕ) (within : part < parts) (k : Option Bool) where
    abbrev case_held : Case
    case_held = record the_case { held = set the_case.held part k }

    pub part-written : set words part (word_of_known k) ≡ case_evidence vars (record (case_of_evidence parts wires words) { held = set (case_of_evidence parts wires words).held part k })
    part-written = grind (arith, words-held vars the_case part k, length-held)

    -- it says what the part is held to be
    pub part-says : case_of_evidence parts wires (set words part (word_of_known k)) ≡ record (case_of_evidence parts wires words) { held = set (case_of_evidence parts wires words).held part k }
    part-says = ap (case_of_evidence parts wires) part-written ∙ words-say vars parts wires case_held (length-set the_case.held part k ∙ length-held) length-seen

    pub part-are : IsEvidence parts wires vars (set words part (word_of_known k))
    part-are = written-are part k case_held part-written (length-set the_case.held part k ∙ length-held) length-seen
