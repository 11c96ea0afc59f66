-- Sets of numbers, as bits of words of 32 bits.
use Rattle.std.specs.Prelude.{ℕ, ◌+◌, ◌*◌, ◌/◌, ◌%◌, Bool, List, slice_index, ◌==◌}
use Rattle.std.specs.Int.{bit_at}
use Rattle.scratch_pool.specs.Words.{words_at}

-- Whether the bit at this place in the words of a set is 1.
abbrev pub has_number : List ℕ → ℕ → Bool
has_number set n = bit_at (slice_index set (n / 32)) (n % 32) == 1

-- the number of words of a set of `parts` parts
abbrev pub part_words : ℕ → ℕ
part_words parts = (parts + 31) / 32

-- set `k` of several that are one after the other
abbrev pub set_at : List ℕ → ℕ → ℕ → List ℕ
set_at sets k size = words_at sets (k * size) size
