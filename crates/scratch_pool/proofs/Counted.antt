-- Blocks that are out, and where they lie.
use Rattle.std.proofs.Common.{◌≡◌, ℕ, ◌+◌, ◌*◌, ◌≤◌, ◌<◌, ◌≢◌, zero, suc, Bool, true, false, cond, List, [], ◌∷◌, length, arith, set, get_or}
use Rattle.std.specs.Prelude.{not, count_by}
use Rattle.std.proofs.Math.Nat.{mul-le-mul_right}
use Rattle.std.proofs.lemmas.List.{length-set}
use Rattle.std.proofs.lemmas.List.Sums.{sum_by-set, count_by-le-length}
use Rattle.scratch_pool.specs.Pools.{Blocks, IsOut, block_words, with_block}
use Rattle.scratch_pool.proofs.Written.{Apart, written-apart}

-- a block ends where a later one begins, or before
pub block-below : (a b size : ℕ) → a < b → a * size + size ≤ b * size
block-below a b size l = let h : (a + 1) * size ≤ b * size = mul-le-mul_right size (omega (arith, l)) in omega (arith, h)

-- two blocks are apart
pub blocks-apart : (size a b : ℕ) → a ≢ b → Apart (a * size) size (b * size) size
blocks-apart size a b ne = grind (arith, block-below)

pub out_within : (out : List Bool) (n : ℕ) → get_or out n false ≡ true → n < length out
out_within [] n e = absurd (let never : ⊥ = cc in never)
out_within (b ∷ out) zero e = omega arith
out_within (b ∷ out) (suc n) e = let rest = out_within out n e in omega (arith, rest)

abbrev is_free : Bool → ℕ
is_free out = cond (not out) 1 0

-- one block less is free after one is handed out
pub count-taken : (out : List Bool) (n : ℕ) → n < length out → get_or out n true ≡ false → count_by not (set out n true) + 1 ≡ count_by not out
count-taken out n l e = grind (arith, sum_by-set)

-- one block more is free after one is given back
pub count-given : (out : List Bool) (n : ℕ) → get_or out n false ≡ true → count_by not (set out n false) ≡ count_by not out + 1
count-given out n e = grind (arith, sum_by-set, out_within)

-- if a block is out, not all are free
pub count-less : (out : List Bool) (n : ℕ) → get_or out n false ≡ true → count_by not out < length out
count-less out n e =
    let more = count-given out n e in
    let most = count_by-le-length not (set out n false) in
    let long = length-set out n false in
    omega (arith, more, most, long)

pub block-stays : (pool : Blocks) (a b : ℕ) → length pool.words ≡ length pool.out * pool.size → IsOut pool a → IsOut pool b → b ≢ a
    → (new : List ℕ) → length new ≡ pool.size → block_words (with_block pool a new) b ≡ block_words pool b
block-stays pool a b all out_a out_b ne new long = grind (arith, block-below, out_within, written-apart)
