-- Words joined one after the other, and the bit of a variable in a rising list.
use Rattle.std.proofs.Common.{◌≡◌, ℕ, ◌+◌, ◌*◌, ◌%◌, ◌^◌, ◌<◌, ◌≤◌, Bool, not, ◌&&◌, ◌||◌, ◌==◌, List, [], ◌∷◌, ◌++◌, map, length, take, get_or, ap, ◌∙◌, arith}
use Rattle.std.proofs.lemmas.Bool.Decides.{nat_tests}
use Rattle.std.specs.Prelude.{bit_and, bit_or}
use Rattle.std.specs.List.{list_any}
use Rattle.std.specs.List.Sorted.{IsStrictlyIncreasing}
use Rattle.std.proofs.lemmas.Bool.{cases_eq, cases_lt, ne_eqb}
use Rattle.std.proofs.lemmas.List.{take_more, map-append, get_or_past}
use Rattle.std.proofs.lemmas.List.Kept.{AllPairs-from_increasing}
use Rattle.state_rules.specs.Graphs.{at_most_one}
use Rattle.state_rules.proofs.WordBits.{has_bit-or, has_bit-and, has_bit-zero, one_bit, joined_more}
use Rattle.state_rules.specs.Bits.{has_bit}
use Rattle.state_rules.proofs.Lists.{any-push}
use Rattle.nnf_text.specs.inner.Sharing.{has, IsJoined}

-- ---- one more

more-than-one : (bs : List Bool) (x : Bool) → not (at_most_one (bs ++ x ∷ [])) ≡ (not (at_most_one bs) || (list_any (λ b. b) bs && x))
more-than-one [] x = grind (arith, nat_tests)
more-than-one (bit ∷ bs) x = grind (arith, nat_tests, any-push, more-than-one bs x)

-- the words of the children before a place are joined, then one more
pub both_more : (column kids : List ℕ) (i any twice word : ℕ) → i < length kids → word ≡ get_or column (get_or kids i 0) 0 → IsJoined column (take i kids) any twice
    → IsJoined column (take (i + 1) kids) (bit_or any word) (bit_or twice (bit_and any word))
both_more column kids i any twice word lt is joined = record {
  some = λ b. ap (λ w. has_bit (bit_or any w) b) is ∙ joined_more (λ k. get_or column k 0) kids i any b lt (joined.some b);
  more = λ b. grind (arith, is, has_bit-or twice (bit_and any word) b, has_bit-and any word b, joined.some b, joined.more b, more-than-one (map (has column b) (take i kids)) (has column b (get_or kids i 0)), longer b);
} where
  longer : (b : ℕ) → map (has column b) (take (i + 1) kids) ≡ map (has column b) (take i kids) ++ has column b (get_or kids i 0) ∷ []
  longer b = ap (map (has column b)) (take_more kids i 0 lt) ∙ map-append (has column b) (take i kids) (get_or kids i 0 ∷ [])

-- ---- the bit of a variable in a rising list

pub in_order : (xs : List ℕ) → IsStrictlyIncreasing xs → (i j : ℕ) → i ≤ j → j < length xs → get_or xs i 0 ≤ get_or xs j 0
in_order xs rise i j le h = grind (arith, nat_tests, cases_lt, AllPairs-from_increasing)

module _ (variables : List ℕ) (rise : IsStrictlyIncreasing variables) (short : length variables ≤ 64) (var : ℕ) (some : 0 < var) where
  pub found-bit : (place word : ℕ) → place < length variables → get_or variables place 0 ≡ var → word ≡ 1 * 2 ^ place % 18446744073709551616 → (b : ℕ) → b < 64 → has_bit word b ≡ (var == get_or variables b 0)
  found-bit place word inside is w b small = grind (arith, nat_tests, one_bit 64 place b, cases_eq b place, ne_eqb, cases_lt, AllPairs-from_increasing variables rise, get_or_past)

  pub no-bit : ((k : ℕ) → k < length variables → get_or variables k 0 ≡ var → ⊥) → (b : ℕ) → b < 64 → has_bit 0 b ≡ (var == get_or variables b 0)
  no-bit none b small = grind (arith, nat_tests, has_bit-zero, ne_eqb, cases_lt, none, get_or_past)
