-- Bits in words of 64.
use Rattle.std.specs.Prelude.{◌≡◌, ℕ, zero, suc, ◌+◌, ◌/◌, ◌%◌, ◌^◌, ◌==◌, Bool, true, false, List, [], ◌∷◌, map, slice_index, bit_and}
use Rattle.std.proofs.Common.{sym}
use Rattle.std.specs.List.{range_with_len}
use Rattle.state_rules.proofs.Bits.{pointwise-equal}
use Rattle.elimination_forests.specs.Branches.{words_of, same_list}

-- the bit at a place
abbrev pub word_bit : List ℕ → ℕ → Bool
word_bit words at = bit_and (slice_index words (at / 64) / 2 ^ (at % 64)) 1 == 1

-- the first `len` bits
abbrev pub bits_in : ℕ → List ℕ → List Bool
bits_in len words = map (word_bit words) (range_with_len 0 len)

-- these are `len / 64 + 1` words, and all bits past the first `len` are 0
abbrev pub AreBits : ℕ → List ℕ → Type 0
AreBits len words = words ≡ words_of (len / 64 + 1) (bits_in len words)

-- the first bit, and the others; past the end all are 0
abbrev pub first_bit : List Bool → Bool
first_bit [] = false
first_bit (b ∷ bits) = b

abbrev pub other_bits : List Bool → List Bool
other_bits [] = []
other_bits (b ∷ bits) = bits

-- the first `n` bits
abbrev pub copied : ℕ → List Bool → List Bool
copied zero bits = []
copied (suc n) bits = first_bit bits ∷ copied n (other_bits bits)

-- ---- the same list

abbrev pub is_same : List Bool → List Bool → Bool
is_same list other = same_list other list

pub same-equal : (list other : List Bool) → is_same list other ≡ true → list ≡ other
same-equal list other e = sym (pointwise-equal other list e)
