-- Times, and the names of wires and copies at a time.
use Rattle.std.specs.Prelude.{ℕ, ◌+◌, ◌/◌, ◌%◌, List, [], ◌∷◌, ◌++◌}
use Rattle.std.specs.List.{range_with_len}
use Rattle.text_rules.specs.Names.{Name}

-- the times of `frames` frames, from 1 on
abbrev pub times : ℕ → List ℕ
times frames = range_with_len 1 frames

-- a time in four digits
abbrev pub four_digits : ℕ → List ℕ
four_digits t = (48 + t / 1000) ∷ (48 + t / 100 % 10) ∷ (48 + t / 10 % 10) ∷ (48 + t % 10) ∷ []

-- a wire at a time: its name, an at sign and the time
abbrev pub wire_at : ℕ → Name → Name
wire_at t wire = wire ++ (64 ∷ four_digits t)

-- the copy of a part at a time: the time, an at sign and the name of the part
abbrev pub copy_at : ℕ → Name → Name
copy_at t part = four_digits t ++ (64 ∷ part)
