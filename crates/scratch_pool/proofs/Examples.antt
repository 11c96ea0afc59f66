-- Worked rows: a pool of two blocks of three words, and a region of five words.
use Rattle.std.proofs.Common.{◌≡◌, false, [], ◌∷◌, ◌++◌, replicate, refl, arith}
use Rattle.scratch_pool.specs.declared.region.Span.{Span}
use Rattle.scratch_pool.specs.Pools.{Blocks, IsFree, IsOut, free_blocks, block_words, with_block, taken, given}
use Rattle.scratch_pool.specs.Regions.{Carved, words_used, free_words, run_words, with_run, carved}

-- ---- a pool

abbrev pool : Blocks
pool = record { size = 3; words = replicate 6 0; out = replicate 2 false }

-- after take and take, one written full of 7 and one of 8
abbrev both_out : Blocks
both_out = with_block (with_block (taken (taken pool 0) 1) 0 (replicate 3 7)) 1 (replicate 3 8)

two_are_free : free_blocks pool ≡ 2
two_are_free = refl

then_one : free_blocks (taken pool 0) ≡ 1
then_one = refl

then_none : free_blocks both_out ≡ 0
then_none = refl

first_is_as_written : block_words both_out 0 ≡ 7 ∷ 7 ∷ 7 ∷ []
first_is_as_written = refl

second_is_as_written : block_words both_out 1 ≡ 8 ∷ 8 ∷ 8 ∷ []
second_is_as_written = refl

one_is_free_again : free_blocks (given both_out 0) ≡ 1
one_is_free_again = refl

it_is_the_first : IsFree (given both_out 0) 0 × IsOut (given both_out 0) 1
it_is_the_first = ((omega arith, refl), refl)

taken_again_it_is_zeroed : block_words (taken (given both_out 0) 0) 0 ≡ 0 ∷ 0 ∷ 0 ∷ []
taken_again_it_is_zeroed = refl

the_other_stays : block_words (taken (given both_out 0) 0) 1 ≡ 8 ∷ 8 ∷ 8 ∷ []
the_other_stays = refl

-- ---- a region

abbrev region : Carved
region = record { words = replicate 5 0; runs = [] }

abbrev three : Span
three = record { start = 0; len = 3 }

abbrev two : Span
two = record { start = 3; len = 2 }

abbrev five : Span
five = record { start = 0; len = 5 }

-- after carve(3) and carve(2), one written full of 7 and one of 8
abbrev both_carved : Carved
both_carved = with_run (with_run (carved (carved region three) two) three (replicate 3 7)) two (replicate 2 8)

two_are_left : free_words (carved region three) ≡ 2
two_are_left = refl

second_begins_behind_the_first : words_used (carved region three).runs ≡ 3
second_begins_behind_the_first = refl

none_is_left : free_words both_carved ≡ 0
none_is_left = refl

runs_are_as_written : (run_words both_carved three ≡ 7 ∷ 7 ∷ 7 ∷ []) × (run_words both_carved two ≡ 8 ∷ 8 ∷ [])
runs_are_as_written = (refl, refl)

-- after both were released
abbrev released : Carved
released = record both_carved { runs = [] }

they_were_released_in_turn : (both_carved.runs ≡ (three ∷ []) ++ two ∷ []) × (three ∷ [] ≡ released.runs ++ three ∷ [])
they_were_released_in_turn = (refl, refl)

all_are_free_again : free_words released ≡ 5
all_are_free_again = refl

carved_again_they_are_zeroed : run_words (carved released five) five ≡ 0 ∷ 0 ∷ 0 ∷ 0 ∷ 0 ∷ []
carved_again_they_are_zeroed = refl
