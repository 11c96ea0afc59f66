-- Lists of bits.
use Rattle.std.specs.Prelude.{◌≡◌, ℕ, zero, suc, ◌+◌, ◌*◌, ◌%◌, ◌<◌, ◌==◌, count_by, Bool, true, false, not, List, [], ◌∷◌, ◌++◌, map, slice_index_or}
use Rattle.std.specs.Int.{bit_at}

-- a bit as a number
abbrev pub number_of_bit : Bool → ℕ
number_of_bit false = 0
number_of_bit true = 1

-- whether the number of ones is odd
abbrev pub has_odd_ones : List Bool → Bool
has_odd_ones bits = count_by (λ b. b) bits % 2 == 1

-- the sum of 2 ^ i over the places i whose bit is 1
abbrev pub row_number : List Bool → ℕ
row_number [] = 0
row_number (b ∷ bs) = number_of_bit b + 2 * row_number bs

-- the bit at place `i`, and 0 past the end
abbrev pub bit_in : List Bool → ℕ → Bool
bit_in bs i = slice_index_or bs i false

-- whether two lists have the same first `n` bits
abbrev pub AlikeBelow : ℕ → List Bool → List Bool → Type 0
AlikeBelow n h k = (i : ℕ) → i < n → bit_in h i ≡ bit_in k i

abbrev pub same_bit : Bool → Bool → Bool
same_bit true b = b
same_bit false b = not b

-- whether bit `place` of a number is 1; the lowest bit is at 0
abbrev pub has_bit : ℕ → ℕ → Bool
has_bit n place = bit_at n place == 1

-- every list of n bits, those that begin with 0 first
abbrev pub lists_of_bits : ℕ → List (List Bool)
lists_of_bits zero = [] ∷ []
lists_of_bits (suc n) =
    let tails = lists_of_bits n in map (λ bs. false ∷ bs) tails ++ map (λ bs. true ∷ bs) tails
