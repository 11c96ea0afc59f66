-- The parts of the bits of words.
use Rattle.std.proofs.Common.{◌≡◌, ℕ, zero, suc, ◌+◌, ◌-◌, ◌*◌, ◌/◌, ◌^◌, ◌<◌, ◌≤◌, Bool, true, false, not, ◌&&◌, List, [], ◌∷◌, ◌++◌, length, take, drop, get_or, Option, None, refl, sym, ap, ◌∙◌, arith, append_assoc, append-nil, length-append}
use Rattle.std.proofs.lemmas.Bool.Decides.{nat_tests}
use Rattle.std.specs.Prelude.{nat_le, bit_and, count_ones}
use Rattle.std.specs.Int.{w32}
use Rattle.std.specs.List.{filter, range_with_len}
use Rattle.std.proofs.lemmas.Bool.{le-leb}
use Rattle.std.proofs.lemmas.Nat.{ones-le}
use Rattle.std.proofs.lemmas.Nat.Bits.{bit_at-suc, bit_at-lt, bit_at_lowest, bit_at_not}
use Rattle.std.proofs.lemmas.List.{length-map, length-take-le, length-drop, get_or-take, get_or-drop}
use Rattle.std.proofs.lemmas.List.FromFn.{length-range_with_len}
use Rattle.std.proofs.lemmas.List.Elements.{filter-append}
use lib.Count.{ones_step}
use Rattle.state_rules.specs.Graphs.{Node, mentions}
use Rattle.state_rules.proofs.Bits.{half-below}
use Rattle.state_rules.proofs.Members.{filter_same}
use Rattle.state_rules.proofs.Lists.{length-filter-le, filter-never, filter-all}
use Rattle.state_rules.proofs.WordBits.{has_bit-and}
use Rattle.state_rules.specs.Bits.{has_bit}
use Rattle.scratch_pool.proofs.Counted.{block-below}
use Rattle.part_sets.specs.Numbers.{part_words}
use Rattle.smooth_nnf.specs.Layouts.{filler, fillers}
use Rattle.smooth_nnf.specs.inner.Sets.{part_at}
use Rattle.smooth_nnf.specs.inner.Drawings.{Drawing, IsDrawing, IsUnder, is_over, missing_in, word_parts, set_parts, part_count}
use Rattle.smooth_nnf.proofs.Fillers.{in_range}
use Rattle.smooth_nnf.proofs.LackingParts.{set-bit, under-wider}

-- ---- words with some bits set

pub mask_bits : (p o m : Bool) → ((p && o) && not (p && m)) ≡ (p && (o && not m))
mask_bits p o m = grind (arith, nat_tests)

-- bits of one word that another lacks
pub masked : (x y b : ℕ) → y < 2 ^ 32 → b < 32 → has_bit (bit_and x (4294967295 - y)) b ≡ (has_bit x b && not (has_bit y b))
masked x y b fits s = grind (arith, nat_tests, has_bit-and x (4294967295 - y) b, bit_at_not w32 y b fits s, bit_at-lt y b)

-- ---- their number

filter-later : (n s d : ℕ) → filter (λ p. has_bit (n / 2) (p - (s + 1))) (range_with_len (s + 1) d) ≡ filter (λ p. has_bit n (p - s)) (range_with_len (s + 1) d)
filter-later n s d = filter_same (λ p. has_bit (n / 2) (p - (s + 1))) (λ p. has_bit n (p - s)) (range_with_len (s + 1) d) (λ p m. grind (arith, nat_tests, in_range (s + 1) d p m, bit_at-suc n (p - (s + 1))))

ones-from : (d n s : ℕ) → n < 2 ^ d → count_ones n ≡ length (filter (λ p. has_bit n (p - s)) (range_with_len s d))
ones-from zero n s h = omega (arith, ones-le 0 n h)
ones-from (suc d) n s h = grind (arith, nat_tests, bit_at_lowest, half-below, ones_step, filter-later, ones-from d (n / 2) (s + 1))

pub ones-parts : (word bits : ℕ) → bits < 2 ^ 32 → count_ones bits ≡ length (word_parts word bits)
ones-parts word bits h = ones-from 32 bits (32 * word + 1) h

-- ---- words one after the other

range-append : (s m n : ℕ) → range_with_len s (m + n) ≡ range_with_len s m ++ range_with_len (s + m) n
range-append s zero n = let e : s ≡ s + 0 = omega arith in let f : 0 + n ≡ n = omega arith in ap (range_with_len s) f ∙ ap (λ k. range_with_len k n) e
range-append s (suc m) n =
    let e : (s + 1) + m ≡ s + suc m = omega arith in
    let f : suc m + n ≡ suc (m + n) = omega arith in
    ap (range_with_len s) f ∙ ap (λ xs. s ∷ xs) (range-append (s + 1) m n ∙ ap (λ k. range_with_len (s + 1) m ++ range_with_len k n) e)

pub word-parts : (test : ℕ → Bool) (word bits : ℕ) → ((b : ℕ) → b < 32 → has_bit bits b ≡ test (part_at word b)) → word_parts word bits ≡ filter test (range_with_len (32 * word + 1) 32)
word-parts test word bits is = filter_same (λ part. has_bit bits (part - (32 * word + 1))) test (range_with_len (32 * word + 1) 32) (λ p m.
    grind (arith, nat_tests, in_range (32 * word + 1) 32 p m, is (p - (32 * word + 1))))

-- the parts of one more word
pub word-more : (test : ℕ → Bool) (word n : ℕ) → filter test (range_with_len (32 * word + 1) (32 * suc n)) ≡ filter test (range_with_len (32 * word + 1) 32) ++ filter test (range_with_len (32 * (word + 1) + 1) (32 * n))
word-more test word n =
    let all : 32 * suc n ≡ 32 + 32 * n = omega arith in
    let next : (32 * word + 1) + 32 ≡ 32 * (word + 1) + 1 = omega arith in
    (λ i. filter test (range_with_len (32 * word + 1) (all i))) ∙ ap (filter test) (range-append (32 * word + 1) 32 (32 * n)) ∙ filter-append test (range_with_len (32 * word + 1) 32) (range_with_len ((32 * word + 1) + 32) (32 * n))
    ∙ (λ i. filter test (range_with_len (32 * word + 1) 32) ++ filter test (range_with_len (next i) (32 * n)))

-- there is no part after the last
pub all-words : (test : ℕ → Bool) (parts n : ℕ) → parts ≤ n → filter (λ p. nat_le p parts && test p) (range_with_len 1 n) ≡ filter test (range_with_len 1 parts)
all-words test parts n le =
    let all : n ≡ parts + (n - parts) = omega arith in
    rw (all, range-append 1 parts (n - parts), filter-append) ((λ i. first i ++ (none (1 + parts) (n - parts) (omega arith)) i) ∙ append-nil (filter test (range_with_len 1 parts))) where
      first : filter (λ p. nat_le p parts && test p) (range_with_len 1 parts) ≡ filter test (range_with_len 1 parts)
      first = grind (arith, nat_tests, filter_same, in_range, le-leb)

      none : (s d : ℕ) → parts < s → filter (λ p. nat_le p parts && test p) (range_with_len s d) ≡ []
      none s d lt = filter_same (λ p. nat_le p parts && test p) (λ p. false) (range_with_len s d) (λ p m. grind (arith, nat_tests, in_range s d p m)) ∙ filter-never (range_with_len s d)

-- what passes one test and not a narrower one
pub left-over : (o m : ℕ → Bool) → ((p : ℕ) → m p ≡ true → o p ≡ true) → (xs : List ℕ) → length (filter (λ p. o p && not (m p)) xs) + length (filter m xs) ≡ length (filter o xs)
left-over o m wider [] = refl
left-over o m wider (x ∷ xs) = grind (arith, nat_tests, wider, left-over o m wider xs)

-- without a node: all parts
pub over-all : (nodes : List Node) (over : Option ℕ) (n : ℕ) → over ≡ None → length (filter (is_over nodes over) (range_with_len 1 n)) ≡ n
over-all nodes over n none = ap (λ o. length (filter (is_over nodes o) (range_with_len 1 n))) none ∙ ap length (filter-all (range_with_len 1 n)) ∙ length-range_with_len 1 n

-- the parts that a line must have below it are those below the node and those missing
pub over-less : (d : Drawing) → IsDrawing d → (over : Option ℕ) (node : ℕ) → IsUnder d over node
    → length (fillers d.evidence d.parts (missing_in d over node)) + part_count d node ≡ length (filter (is_over d.graph.nodes over) (range_with_len 1 d.parts))
over-less d is over node under = omega (
  arith,
  left-over (is_over d.graph.nodes over) (λ p. mentions d.graph.nodes p node) (under-wider d is over node under) (range_with_len 1 d.parts),
  length-map (filter (missing_in d over node) (range_with_len 1 d.parts)) (filler d.evidence),
)

-- ---- the parts of a set

set_parts-next : (word i : ℕ) (words : List ℕ) → i < length words → set_parts word (take (suc i) words) ≡ set_parts word (take i words) ++ word_parts (word + i) (get_or words i 0)
set_parts-next word i [] lt = absurd (omega arith)
set_parts-next word zero (w ∷ words) lt = let e : word ≡ word + 0 = omega arith in append-nil (word_parts word w) ∙ ap (λ n. word_parts n w) e
set_parts-next word (suc i) (w ∷ words) lt =
    let e : (word + 1) + i ≡ word + suc i = omega arith in
    ap (λ ps. word_parts word w ++ ps) (set_parts-next (word + 1) i words (omega arith) ∙ ap (λ n. set_parts (word + 1) (take i words) ++ word_parts n (get_or words i 0)) e)
    ∙ sym (append_assoc (word_parts word w) (set_parts (word + 1) (take i words)) (word_parts (word + suc i) (get_or words i 0)))

-- one more word
pub count-more : (words : List ℕ) (i count : ℕ) → i < length words → get_or words i 0 < 2 ^ 32 → count ≡ length (set_parts 0 (take i words)) → count + count_ones (get_or words i 0) ≡ length (set_parts 0 (take (i + 1) words))
count-more words i count lt fits is = grind (arith, nat_tests, ones-parts, set_parts-next, length-append)

length-word_parts : (word bits : ℕ) → length (word_parts word bits) ≤ 32
length-word_parts word bits = omega (arith, length-filter-le (λ part. has_bit bits (part - (32 * word + 1))) (range_with_len (32 * word + 1) 32), length-range_with_len (32 * word + 1) 32)

pub count-le : (word : ℕ) (words : List ℕ) → length (set_parts word words) ≤ 32 * length words
count-le word [] = omega arith
count-le word (w ∷ words) = omega (arith, length-append (word_parts word w) (set_parts (word + 1) words), length-word_parts word w, count-le (word + 1) words)

pub set_parts-are : (test : ℕ → Bool) (word : ℕ) (words : List ℕ) → ((i b : ℕ) → i < length words → b < 32 → has_bit (get_or words i 0) b ≡ test (part_at (word + i) b))
    → set_parts word words ≡ filter test (range_with_len (32 * word + 1) (32 * length words))
set_parts-are test word [] is = let e : 32 * 0 ≡ 0 = omega arith in ap (λ n. filter test (range_with_len (32 * word + 1) n)) (sym e)
set_parts-are test word (w ∷ words) is =
    (λ j. word-parts test word w (λ b s. grind (arith, is 0 b)) j ++ set_parts-are test (word + 1) words (λ i b lt s. grind (arith, is (suc i) b)) j)
    ∙ sym (word-more test word (length words))

-- the set of parts of a drawing's node
pub node_parts : (d : Drawing) → IsDrawing d → (node : ℕ) → node < length d.graph.nodes → (set : List ℕ) → set ≡ take (part_words d.parts) (drop (node * part_words d.parts) d.sets)
    → length (set_parts 0 set) ≡ part_count d node
node_parts d is node lt set at =
    let long : length set ≡ part_words d.parts = grind (arith, length-take-le, length-drop, block-below, is.wide) in
    let bits : (i b : ℕ) → i < length set → b < 32 → has_bit (get_or set i 0) b ≡ (nat_le (part_at (0 + i) b) d.parts && mentions d.graph.nodes (part_at (0 + i) b) node) =
    λ i b inside s. grind (arith, nat_tests, set-bit, get_or-take, get_or-drop, is.below) in
    ap length (set_parts-are (λ p. nat_le p d.parts && mentions d.graph.nodes p node) 0 set bits ∙ all-words (λ p. mentions d.graph.nodes p node) d.parts (32 * length set) (omega (arith, long)))

pub part_count-le : (d : Drawing) (node : ℕ) → part_count d node ≤ d.parts
part_count-le d node = omega (arith, length-filter-le (λ part. mentions d.graph.nodes part node) (range_with_len 1 d.parts), length-range_with_len 1 d.parts)
