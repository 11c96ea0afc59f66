-- The texts of filled lines, word by word.
use Rattle.std.proofs.Common.{◌≡◌, ℕ, zero, suc, ◌+◌, ◌-◌, ◌*◌, ◌<◌, Bool, ◌&&◌, List, [], ◌∷◌, ◌++◌, map, length, Option, refl, sym, ap, ◌∙◌, subst, arith, append_assoc}
use Rattle.std.proofs.lemmas.Bool.Decides.{nat_tests}
use Rattle.std.specs.Prelude.{nat_le, decimal, slice_index}
use Rattle.std.specs.List.{filter, flat_map, range_with_len}
use Rattle.std.proofs.lemmas.List.{map-append}
use Rattle.std.proofs.lemmas.List.Concat.{flat_map-append}
use Rattle.text_rules.specs.Tokens.{spaced}
use Rattle.state_rules.specs.Bits.{has_bit}
use Rattle.diag_edge.specs.Edge.{Writing}
use Rattle.nnf_text.specs.Extending.{Extends}
use Rattle.nnf_text.specs.WrittenGraphs.{node_words}
use Rattle.nnf_text.proofs.LineTexts.{and-spaced}
use Rattle.part_sets.specs.Numbers.{part_words}
use Rattle.smooth_nnf.specs.Layouts.{filler, fillers}
use Rattle.smooth_nnf.specs.inner.Sets.{part_at}
use Rattle.smooth_nnf.specs.inner.Drawings.{Drawing, missing_in, filled_line}
use Rattle.smooth_nnf.specs.inner.Texts.{numbers_text, bit_text, word_text}
use Rattle.smooth_nnf.proofs.WordParts.{all-words, word-more, word-parts}

-- ---- a word

-- a word's parts, bit by bit
bits-text : (evidence : List ℕ) (word bits s d : ℕ) → flat_map (bit_text evidence word bits) (range_with_len s d)
    ≡ numbers_text (map (filler evidence) (filter (λ part. has_bit bits (part - (32 * word + 1))) (range_with_len (32 * word + 1 + s) d)))
bits-text evidence word bits s zero = refl
bits-text evidence word bits s (suc d) = grind (arith, nat_tests, bits-text evidence word bits (s + 1) d)

pub word-text : (d : Drawing) (node : ℕ) (over : Option ℕ) (word bits : ℕ) → ((b : ℕ) → b < 32 → has_bit bits b ≡ (nat_le (part_at word b) d.parts && missing_in d over node (part_at word b)))
    → flat_map (bit_text d.evidence word bits) (range_with_len 0 32) ≡ word_text d node over word
word-text d node over word bits is =
    let start : 32 * word + 1 + 0 ≡ 32 * word + 1 = omega arith in
    bits-text d.evidence word bits 0 32
    ∙ ap (λ n. numbers_text (map (filler d.evidence) (filter (λ part. has_bit bits (part - (32 * word + 1))) (range_with_len n 32)))) start
    ∙ ap (λ ps. numbers_text (map (filler d.evidence) ps)) (word-parts (λ part. nat_le part d.parts && missing_in d over node part) word bits is)

-- ---- all words

words-text : (d : Drawing) (node : ℕ) (over : Option ℕ) (word count : ℕ) → flat_map (word_text d node over) (range_with_len word count)
    ≡ numbers_text (map (filler d.evidence) (filter (λ part. nat_le part d.parts && missing_in d over node part) (range_with_len (32 * word + 1) (32 * count))))
words-text d node over word zero = let none : 32 * 0 ≡ 0 = omega arith in ap (λ n. numbers_text (map (filler d.evidence) (filter (λ part. nat_le part d.parts && missing_in d over node part) (range_with_len (32 * word + 1) n)))) (sym none)
words-text d node over word (suc count) =
    let test : ℕ → Bool = λ part. nat_le part d.parts && missing_in d over node part in
    let here : List ℕ = filter test (range_with_len (32 * word + 1) 32) in
    let later : List ℕ = filter test (range_with_len (32 * (word + 1) + 1) (32 * count)) in
    ap (λ t. word_text d node over word ++ t) (words-text d node over (word + 1) count)
    ∙ sym (flat_map-append (λ n. 32 ∷ decimal n) (map (filler d.evidence) here) (map (filler d.evidence) later))
    ∙ ap numbers_text (sym (map-append (filler d.evidence) here later) ∙ ap (map (filler d.evidence)) (sym (word-more test word count)))

-- what was added word by word
pub fillers-added : (d : Drawing) (node : ℕ) (over : Option ℕ) (n : ℕ) (a b : Writing) (p q : Option (List ℕ)) → Extends a b p q (flat_map (word_text d node over) (range_with_len 0 n)) → n ≡ part_words d.parts
    → Extends a b p q (numbers_text (fillers d.evidence d.parts (missing_in d over node)))
fillers-added d node over n a b p q h e = subst (Extends a b p q) (grind (arith, nat_tests, words-text, all-words)) h

-- ---- the line

pub filled-text : (d : Drawing) (node : ℕ) (over : Option ℕ) (count : ℕ) → count ≡ length (fillers d.evidence d.parts (missing_in d over node)) + 1
    → 65 ∷ ((32 ∷ decimal count) ++ ((32 ∷ decimal (slice_index d.lines node)) ++ (numbers_text (fillers d.evidence d.parts (missing_in d over node)) ++ 10 ∷ []))) ≡ spaced (node_words (filled_line d over node))
filled-text d node over count is =
    let kids : List ℕ = (filled_line d over node).kids in
    let long : count ≡ length kids = omega arith in
    (λ i. 65 ∷ ((32 ∷ decimal (long i)) ++ sym (append_assoc (32 ∷ decimal (slice_index d.lines node)) (numbers_text (fillers d.evidence d.parts (missing_in d over node))) (10 ∷ [])) i)) ∙ and-spaced kids

-- a word without bits fills nothing in
pub no-bits : (d : Drawing) (node : ℕ) (over : Option ℕ) (word bits : ℕ) → bits ≡ 0 → ((b : ℕ) → b < 32 → has_bit bits b ≡ (nat_le (part_at word b) d.parts && missing_in d over node (part_at word b))) → [] ≡ word_text d node over word
no-bits d node over word bits none is = ap (λ n. flat_map (bit_text d.evidence word n) (range_with_len 0 32)) (sym none) ∙ word-text d node over word bits is
