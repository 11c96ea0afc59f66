-- Marks in a state, for the parts that evidence leaves open.
use Rattle.std.specs.Prelude.{◌≡◌, ℕ, zero, suc, ◌+◌, ◌%◌, ◌<◌, Bool, List, map, length, slice_index, ◌==◌, nat_le}

-- a part's word in the state, marked if its variable is open
abbrev pub mark_of : ℕ → ℕ → ℕ
mark_of zero s = s + 2
mark_of (suc word) s = s

abbrev pub is_marked : ℕ → Bool
is_marked mark = nat_le 2 mark

-- the state, without the marks
abbrev pub marked_bits : List ℕ → List Bool
marked_bits marks = map (λ mark. mark % 2 == 0) marks

-- exactly the open parts are marked
abbrev pub AreMarks : List ℕ → List ℕ → Type 0
AreMarks evidence marks = (k : ℕ) → k < length marks → is_marked (slice_index marks k) ≡ (slice_index evidence k == 0)
