-- What the words of a column mean.
use Rattle.std.proofs.Common.{◌≡◌, ℕ, ◌+◌, ◌-◌, ◌^◌, ◌<◌, ◌≤◌, Bool, true, false, List, ◌++◌, min, length, take, drop, Option, Some, None, get_or, set, w64, All, sym, ap, ◌∙◌, arith, inl, inr}
use Rattle.std.proofs.lemmas.Bool.Decides.{nat_tests}
use Rattle.std.specs.Prelude.{◌⊎◌}
use Rattle.std.specs.Int.{bit_at, trailing_zeros}
use Rattle.std.proofs.lemmas.Bool.{eq-eqb, cases_lt, ltb-true, ltb-false}
use Rattle.std.proofs.lemmas.Nat.Bits.{bit_at-trailing_zeros}
use Rattle.std.proofs.lemmas.List.{get_or-set_same, get_or-set_other, get_or_past, take_all, length-drop}
use Rattle.std.proofs.Math.Seq.{take-add}
use Rattle.std.proofs.lemmas.List.Folds.{find-append}
use Rattle.state_rules.specs.Graphs.{Node, node_at, mention_by, mentions, nodes_fit, shares}
use Rattle.state_rules.proofs.NodeValues.{map-below, below-each, value_of-at}
use Rattle.state_rules.proofs.NodesFit.{fits-at, apart_at-below}
use Rattle.state_rules.proofs.Mentions.{unshared-0}
use Rattle.state_rules.proofs.WordBits.{has_bit-zero}
use Rattle.state_rules.specs.Bits.{has_bit}
use Rattle.nnf_text.specs.inner.Sharing.{has, IsWord, first_of, IsFirstOf, FirstOf, earlier}
use Rattle.nnf_text.proofs.Sparse.{find-none_at, find-first_at}

-- whether children of node `k` share variable `v`
abbrev pub share : List Node → ℕ → ℕ → Bool
share nodes k v = shares nodes (node_at nodes k) v

-- the nodes before `i` have their words, and none of them has children that share
pub record IsMarked (nodes : List Node) (variables : List ℕ) (i : ℕ) (column : List ℕ) : Type 0 where
  pub words : (k b : ℕ) → k < i → b < 64 → has column b k ≡ mentions nodes (get_or variables b 0) k
  pub none : (k b : ℕ) → k < i → b < 64 → share nodes k (get_or variables b 0) ≡ false

-- the children of a node have words
pub have_words : (vars : ℕ) (nodes : List Node) (i len : ℕ) (kids : List ℕ) → nodes_fit vars 0 nodes ≡ true → i < length nodes → i ≤ len → kids ≡ (node_at nodes i).kids → All (λ child. child < len) kids
have_words vars nodes i len kids fit inside le is k d h = grind (arith, is, below-each i (node_at nodes i).kids (fits-at vars nodes i fit inside).below)

module _ (vars : ℕ) (nodes : List Node) (variables : List ℕ) (i : ℕ) (column : List ℕ) (marked : IsMarked nodes variables i column) (fit : nodes_fit vars 0 nodes ≡ true) (lt : i < length nodes) (long : length column ≡ length nodes)
    (word twice : ℕ) (is : IsWord column (node_at nodes i).what (node_at nodes i).kids variables word twice) where
  word-right : (b : ℕ) → b < 64 → has_bit word b ≡ mentions nodes (get_or variables b 0) i
  word-right b small =
      let below = (fits-at vars nodes i fit lt).below in
      is.some b small
      ∙ ap (mention_by (get_or variables b 0) (node_at nodes i).what) (map-below (has column b) (mentions nodes (get_or variables b 0)) i (node_at nodes i).kids below (λ k h. marked.words k b h small))
      ∙ sym (value_of-at (mention_by (get_or variables b 0)) nodes i lt below)

  twice-right : (b : ℕ) → b < 64 → has_bit twice b ≡ share nodes i (get_or variables b 0)
  twice-right b small = grind (arith, is.more b small, apart_at-below (has column b) (mentions nodes (get_or variables b 0)) i (node_at nodes i).what (node_at nodes i).kids (fits-at vars nodes i fit lt).below (λ k h. marked.words k b h small))

  word-at : (k b : ℕ) → b < 64 → (k < i) ⊎ (k ≡ i) → has (set column i word) b k ≡ mentions nodes (get_or variables b 0) k
  word-at k b small given = grind (arith, nat_tests, get_or-set_other, marked.words, get_or-set_same, word-right)

  none-at : twice ≡ 0 → (k b : ℕ) → b < 64 → (k < i) ⊎ (k ≡ i) → share nodes k (get_or variables b 0) ≡ false
  none-at zero_twice k b small given = grind (arith, nat_tests, twice-right b small, has_bit-zero, marked.none k b)

  -- the next node has no children that share
  pub marked_more : twice ≡ 0 → IsMarked nodes variables (i + 1) (set column i word)
  marked_more zero_twice = grind (arith, nat_tests, word-at, cases_lt, none-at)

  module _ (short : length variables ≤ 64) (some : 0 < twice) (fits : twice < 2 ^ 64) (place : ℕ) (e : place ≡ trailing_zeros w64 twice) where
    in_word : place < 64
    in_word = omega (arith, e, (bit_at-trailing_zeros w64 twice some fits).0)

    is_shared : share nodes i (get_or variables place 0) ≡ true
    is_shared = sym (twice-right place in_word) ∙ eq-eqb (bit_at twice place) 1 (ap (bit_at twice) e ∙ (bit_at-trailing_zeros w64 twice some fits).1)

    -- or it has: one of the variables
    pub marked_inside : place < length variables
    marked_inside = grind (arith, nat_tests, cases_lt, get_or_past, is_shared, unshared-0)

    -- which is the first
    pub marked_first : IsFirstOf nodes variables i (get_or variables place 0)
    marked_first = record {
      inside = lt;
      found = find-first_at (share nodes i) variables place marked_inside is_shared (λ b h. grind (arith, e, in_word, twice-right b, (bit_at-trailing_zeros w64 twice some fits).2 b));
      before = λ k h. find-none_at (share nodes k) variables (λ b g. marked.none k b h (omega arith));
    }

-- no node has children that share
pub marked_all : (nodes : List Node) (variables : List ℕ) (i : ℕ) (column : List ℕ) → length variables ≤ 64 → length nodes ≤ i → IsMarked nodes variables i column → FirstOf nodes variables None
marked_all nodes variables i column short past marked k h = find-none_at (share nodes k) variables (λ b g. marked.none k b (omega arith) (omega arith))

-- ---- some variables after others

module _ (nodes : List Node) (xs ys : List ℕ) where
  not_first : (k : ℕ) → first_of nodes xs k ≡ None → first_of nodes (xs ++ ys) k ≡ first_of nodes ys k
  not_first k none = grind (arith, find-append)

  first_here : (k v : ℕ) → first_of nodes xs k ≡ Some v → first_of nodes (xs ++ ys) k ≡ Some v
  first_here k v found = grind (arith, find-append)

  pub earlier-first : (a b : Option (ℕ × ℕ)) → FirstOf nodes xs a → FirstOf nodes ys b → FirstOf nodes (xs ++ ys) (earlier a b)
  earlier-first None None none more = λ k h. not_first k (none k h) ∙ more k h
  earlier-first None (Some b) none more = grind (arith, nat_tests, not_first, none, more.before)
  earlier-first (Some a) None one none = grind (arith, nat_tests, first_here, not_first, one.before, none)
  earlier-first (Some a) (Some b) one more = grind (arith, nat_tests, ltb-true, not_first, one.before, more.before, ltb-false, first_here)

-- ---- the next variables

pub take-window : {A : Type 0} (xs : List A) (start end : ℕ) → start ≤ length xs → end ≡ min (start + 64) (length xs) → take (start + 64) xs ≡ take start xs ++ take (end - start) (drop start xs)
take-window xs start end within is = take-add start 64 xs ∙ ap (λ t. take start xs ++ t) (by (cases_lt (length xs) (start + 64))) where
  by : (length xs < start + 64) ⊎ (start + 64 ≤ length xs) → take 64 (drop start xs) ≡ take (end - start) (drop start xs)
  by (inl short) =
      let long = length-drop start xs in
      take_all 64 (drop start xs) (omega arith) ∙ sym (take_all (end - start) (drop start xs) (omega arith))
  by (inr enough) = let count : 64 ≡ end - start = omega arith in ap (λ n. take n (drop start xs)) count
