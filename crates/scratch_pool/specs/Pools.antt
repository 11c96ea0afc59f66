-- What contracts see of a pool.
use Rattle.std.specs.Prelude.{◌≡◌, ℕ, ◌*◌, ◌<◌, Bool, true, false, not, List, count_by, length, slice_index_or, slice_set}
use Rattle.scratch_pool.specs.Words.{words_at, written, zeroed}

-- blocks of `size` words one after the other, and which of them are out
pub record Blocks : Type 0 where
  pub size : ℕ
  pub words : List ℕ
  pub out : List Bool

-- whether a block is out, and so of this pool
abbrev pub IsOut : Blocks → ℕ → Type 0
IsOut pool number = slice_index_or pool.out number false ≡ true

-- the number of blocks that are not out
abbrev pub free_blocks : Blocks → ℕ
free_blocks pool = count_by not pool.out

-- whether a block of this pool is not out
abbrev pub IsFree : Blocks → ℕ → Type 0
IsFree pool number = (number < length pool.out) × (slice_index_or pool.out number true ≡ false)

-- the pool has exactly the words of its blocks
abbrev pub IsSound : Blocks → Type 0
IsSound pool = length pool.words ≡ length pool.out * pool.size

-- the words of a block
abbrev pub block_words : Blocks → ℕ → List ℕ
block_words pool number = words_at pool.words (number * pool.size) pool.size

-- the pool with these words in a block
abbrev pub with_block : Blocks → ℕ → List ℕ → Blocks
with_block pool number new = record pool { words = written pool.words (number * pool.size) new }

-- the pool after a block was handed out
abbrev pub taken : Blocks → ℕ → Blocks
taken pool number = record {
  size = pool.size;
  words = zeroed pool.words (number * pool.size) pool.size;
  out = slice_set pool.out number true;
}

-- the pool after a block was given back
abbrev pub given : Blocks → ℕ → Blocks
given pool number = record pool { out = slice_set pool.out number false }
