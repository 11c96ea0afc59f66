-- A change of what a session knows changes a word of its block.
use Rattle.std.proofs.Common.{◌≡◌, ℕ, ◌+◌, ◌-◌, ◌<◌, ◌≤◌, Bool, List, replicate, get_or, set, sym, subst, Option, None, arith, inl, inr, get_or-set_same}
use Rattle.std.specs.Prelude.{All, ◌⊎◌}
use Rattle.std.proofs.Math.Seq.{take-set-lt}
use Rattle.std.proofs.lemmas.List.{length-set, length-replicate, take-set-le, drop-set-lt, take-replicate, drop-replicate, get_or-replicate}
use Rattle.std.proofs.lemmas.List.Elements.{All-replicate}
use Rattle.state_rules.specs.Cases.{Case, empty_case}
use Rattle.conditioner.specs.Evidence.{word_of_known}
use Rattle.script_lang.specs.declared.line.Noted.{Noted}
use Rattle.script_lang.specs.declared.line.Noted.TheVariants.{Wire, Part}
use Rattle.session_rules.specs.CaseEvidence.{case_of_evidence, IsEvidence}
use Rattle.session_rules.proofs.CaseEvidence.{zeros-say, zeros-are, wire-says, wire-are, part-says, part-are}
use Rattle.session_table.specs.Tables.{count_of, with_noted}
use Rattle.session_table.specs.inner.Blocks.{known_in, state_in, entry_in, point_of, block_size, IsLaidOut}
use Rattle.session_table.specs.declared.block.Layout.{Layout}

-- the block after the word of a variable is written, without a point
abbrev pub with_word : Layout → List ℕ → ℕ → Option Bool → List ℕ
with_word layout block place known = set (set block place (word_of_known known)) layout.vars 0

module _ (layout : Layout) (block : List ℕ) (laid : IsLaidOut layout block) (place : ℕ) (within : place < layout.vars) (known : Option Bool) where
  with_word-known : known_in layout (with_word layout block place known) ≡ set (known_in layout block) place (word_of_known known)
  with_word-known = grind (arith, take-set-le, take-set-lt)

  with_word-state : state_in layout (with_word layout block place known) ≡ state_in layout block
  with_word-state = grind (arith, drop-set-lt)

  with_word-point : point_of (get_or (with_word layout block place known) layout.vars 0) (state_in layout (with_word layout block place known)) ≡ None
  with_word-point = grind (arith, length-set, get_or-set_same)

  -- it is laid out again if its first words are those of a case
  with_word-laid : IsEvidence layout.parts layout.wires layout.vars (set (known_in layout block) place (word_of_known known))
      → IsLaidOut layout (with_word layout block place known)
  with_word-laid are = grind (arith, length-set, with_word-known, with_word-state)

  -- it holds the case that they say
  with_word-entry : (after : Case)
      → case_of_evidence layout.parts layout.wires (set (known_in layout block) place (word_of_known known)) ≡ after
      → entry_in layout (with_word layout block place known) ≡ record { known = after; point = None }
  with_word-entry after says = grind (arith, with_word-known, with_word-point)

-- the place of the word of a wire, or of a part
abbrev pub word_place : Layout → Noted → ℕ → ℕ
word_place layout Wire place = layout.parts + place
word_place layout Part place = place

module _ (layout : Layout) (block : List ℕ) (laid : IsLaidOut layout block) where
  -- the written word says what is known of the wire, or of the part
  module _ (known : Option Bool) where
    word-says : (what : Noted) (place : ℕ) → place < count_of layout.parts layout.wires what
        → case_of_evidence layout.parts layout.wires (set (known_in layout block) (word_place layout what place) (word_of_known known)) ≡ (with_noted (entry_in layout block) what place known).known
    word-says Wire place within = wire-says layout.parts layout.wires layout.vars (known_in layout block) laid.known place within known
    word-says Part place within = part-says layout.parts layout.wires layout.vars (known_in layout block) laid.known place within known

    word-are : (at : ℕ) → at < layout.parts + layout.wires → (at < layout.parts) ⊎ (layout.parts ≤ at)
        → IsEvidence layout.parts layout.wires layout.vars (set (known_in layout block) at (word_of_known known))
    word-are at within (inl part) = part-are layout.parts layout.wires layout.vars (known_in layout block) laid.known at part known
    word-are at within (inr wire) =
        let e : layout.parts + (at - layout.parts) ≡ at = omega arith in
        rw e at (wire-are layout.parts layout.wires layout.vars (known_in layout block) laid.known (at - layout.parts) (omega arith) known)

    pub noted-entry : (what : Noted) (place at : ℕ) → at ≡ word_place layout what place → place < count_of layout.parts layout.wires what
        → entry_in layout (with_word layout block at known) ≡ with_noted (entry_in layout block) what place known
    noted-entry what place at there within = grind (arith, with_word-entry, word-says)

    pub noted-laid : (at : ℕ) → at < layout.parts + layout.wires → IsLaidOut layout (with_word layout block at known)
    noted-laid at within = with_word-laid layout block laid at (omega arith) known (word-are at within (grind arith))

-- a block of zeros is that of a session that opens
module _ (layout : Layout) (room : layout.parts + layout.wires ≤ layout.vars) where
  abbrev zeros : List ℕ
  zeros = replicate (block_size layout) 0

  zeros-known : known_in layout zeros ≡ replicate layout.vars 0
  zeros-known = take-replicate layout.vars (block_size layout) 0 (omega arith)

  pub zeros-entry : entry_in layout (replicate (block_size layout) 0) ≡ record { known = empty_case layout.wires layout.parts; point = None }
  zeros-entry = grind (arith, zeros-known, zeros-say, get_or-replicate)

  pub zeros-laid : IsLaidOut layout (replicate (block_size layout) 0)
  zeros-laid = record {
    long = length-replicate (block_size layout) 0;
    known = subst (IsEvidence layout.parts layout.wires layout.vars) (sym zeros-known) (zeros-are layout.parts layout.wires layout.vars room);
    state = subst (All (λ s. s < 2)) (sym (drop-replicate (layout.vars + 1) (block_size layout) 0)) (All-replicate (λ s. s < 2) _ 0 (omega arith));
  }
