-- From the bytes taken of a script to the whole script.
use Rattle.std.proofs.Common.{◌≡◌, ◌⊎◌, ◌<◌, ◌≤◌, ◌-◌, ◌+◌, ℕ, false, List, [], ◌∷◌, ◌++◌, length, take, Option, Some, None, inl, inr, ◌∙◌, ap, sym, arith, nat_lt, append-nil, take_all, codes, if◌then◌else◌}
use Rattle.std.proofs.lemmas.Grind.{common_steps}
use Rattle.std.specs.Io.KnownBytes.{Consumes, IsAtEnd}
use Rattle.std.proofs.lemmas.Bool.{lt-ltb, cases_lt}
use Rattle.std.proofs.lemmas.Bool.Decides.{nat_tests}
use Rattle.std.proofs.Math.Seq.{take-append_seam, take-append-add}
use Rattle.text_rules.specs.TextLines.{whole_lines, all_lines}
use Rattle.diag_edge.specs.Edge.{Reading}
use Rattle.session_rules.specs.Items.{Item, Plain}
use Rattle.session_rules.specs.Spelling.{WritesPart}
use Rattle.session_rules.proofs.Begun.{part_more}
use Rattle.session_rules.proofs.LineFronts.{whole_lines-front, all_lines-front}
use Rattle.device_files.specs.Output.{too_long_line}
use Rattle.diag_cli.specs.declared.serving.TheConstants.{SCRIPT_LIMIT}
use Rattle.diag_cli.specs.Behaviours.{End, Ended, Failed, Cut, served}
use Rattle.diag_cli.specs.Fulfilled.{EndsAs}
use Rattle.diag_cli.specs.Details.{wholly_served, end_of}

abbrev script_too_long : List ℕ
script_too_long = too_long_line (codes "script") SCRIPT_LIMIT

-- ---- what was taken is the script, up to the limit

module _ (limit : ℕ) (script bytes left : List ℕ) (took : script ≡ bytes ++ left) where
  abbrev end_at : End
  end_at = if nat_lt (length script) limit then Ended else Cut

  taken_to_end : left ≡ [] → length bytes < limit → (bytes ≡ take limit script) × (Ended ≡ end_at)
  taken_to_end none short =
      let all : script ≡ bytes = took ∙ ap (λ r. bytes ++ r) none ∙ append-nil bytes in
      (rw all (sym (take_all limit bytes (omega (arith, short)))), rw (all, lt-ltb (length bytes) limit short))

  taken_to_limit : length bytes ≡ limit → (bytes ≡ take limit script) × (Cut ≡ end_at)
  taken_to_limit many =
      let long : nat_lt (length script) limit ≡ false = grind (arith, common_steps, took, many) in
      (rw (took, ← many) (sym (take-append_seam bytes left)), rw long)

at_the_end : (script bytes : List ℕ) (after : Option (List ℕ)) → Consumes (Some script) after bytes → IsAtEnd after → length bytes < SCRIPT_LIMIT → (bytes ≡ take SCRIPT_LIMIT script) × (Ended ≡ end_of script)
at_the_end script bytes None took none short = absurd took
at_the_end script bytes (Some left) took none short = taken_to_end SCRIPT_LIMIT script bytes left took none short

at_the_limit : (script bytes : List ℕ) (after : Option (List ℕ)) → Consumes (Some script) after bytes → length bytes ≡ SCRIPT_LIMIT → (bytes ≡ take SCRIPT_LIMIT script) × (Cut ≡ end_of script)
at_the_limit script bytes None took many = absurd took
at_the_limit script bytes (Some left) took many = taken_to_limit SCRIPT_LIMIT script bytes left took many

pub taken_all : (script : List ℕ) (input new_input : Reading) (bytes : List ℕ) (end : End) → new_input.faults ≡ input.faults → Consumes (Some script) new_input.left bytes → EndsAs end bytes input new_input
    → (bytes ≡ take SCRIPT_LIMIT script) × (end ≡ end_of script)
taken_all script input new_input bytes Ended same took is = at_the_end script bytes new_input.left took is.0 is.1
taken_all script input new_input bytes Failed same took is = absurd (omega (arith, is.1, same))
taken_all script input new_input bytes Cut same took is = at_the_limit script bytes new_input.left took is.0

-- ---- what begins the answers to lines and any more begins the output of the whole script

module _ (limit : ℕ) (answers : List (List ℕ) → List Item) (script bytes rest : List ℕ) (lines : List (List ℕ)) (a b : Option (List ℕ))
    (is : script ≡ bytes ++ rest) (begun : (more : List (List ℕ)) → WritesPart a b (answers (lines ++ more))) where
  abbrev BeginsOutput : Type 0
  BeginsOutput = WritesPart a b (served answers (take limit script) (if nat_lt (length script) limit then Ended else Cut)).items

  -- the script is below the limit
  below : length script < limit → (more : List (List ℕ)) → lines ++ more ≡ all_lines script → BeginsOutput
  below short more all = grind (arith, nat_tests, begun more, take_all limit script)

  -- it is not, and its bytes up to the limit are answered
  above : limit ≤ length script → (more : List (List ℕ)) → lines ++ more ≡ whole_lines (take limit script) → BeginsOutput
  above long more all = grind (arith, nat_tests, begun more, part_more a b (answers (whole_lines (take limit script))) (Plain script_too_long ∷ []))

  with_whole_lines : length bytes ≤ limit → lines ≡ whole_lines bytes → BeginsOutput
  with_whole_lines few are = elim (cases_lt (length script) limit) [
    | inl short ↦
        let more = all_lines-front bytes rest in
        below short more.0 (ap (λ ls. ls ++ more.0) are ∙ sym more.1 ∙ ap all_lines (sym is))
    | inr long ↦
        let seen = take (limit - length bytes) rest in
        let room : limit ≡ length bytes + (limit - length bytes) = omega (arith, few) in
        let front : take limit script ≡ bytes ++ seen = ap (take limit) is ∙ ap (λ n. take n (bytes ++ rest)) room ∙ take-append-add bytes rest (limit - length bytes) in
        let more = whole_lines-front bytes seen in
        above long more.0 (ap (λ ls. ls ++ more.0) are ∙ sym more.1 ∙ ap whole_lines (sym front))
  ]

  with_all_lines : rest ≡ [] → length bytes < limit → lines ≡ all_lines bytes → BeginsOutput
  with_all_lines none short are = grind (arith, is, append-nil bytes, append-nil lines, below)

-- these lines are taken of bytes
abbrev AreTaken : List (List ℕ) → List ℕ → Type 0 → Type 0
AreTaken lines bytes at_end = ((length bytes ≤ SCRIPT_LIMIT) × (lines ≡ whole_lines bytes)) ⊎ (at_end × (length bytes < SCRIPT_LIMIT) × (lines ≡ all_lines bytes))

pub broken_begins_all : (answers : List (List ℕ) → List Item) (script bytes : List ℕ) (left : Option (List ℕ)) (lines : List (List ℕ)) (a b : Option (List ℕ)) → Consumes (Some script) left bytes
    → AreTaken lines bytes (IsAtEnd left) → ((more : List (List ℕ)) → WritesPart a b (answers (lines ++ more))) → WritesPart a b (wholly_served answers script).items
broken_begins_all answers script bytes None lines a b took are begun = absurd took
broken_begins_all answers script bytes (Some rest) lines a b took (inl whole) begun = with_whole_lines SCRIPT_LIMIT answers script bytes rest lines a b took begun whole.0 whole.1
broken_begins_all answers script bytes (Some rest) lines a b took (inr all) begun = with_all_lines SCRIPT_LIMIT answers script bytes rest lines a b took begun all.0 all.1 all.2
