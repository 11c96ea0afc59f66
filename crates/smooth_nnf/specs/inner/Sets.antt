-- Sets of parts, as bits of words of 32 bits.
use Rattle.std.specs.Prelude.{ℕ, ◌+◌, ◌*◌}

-- the part of a bit
abbrev pub part_at : ℕ → ℕ → ℕ
part_at word b = 32 * word + b + 1
