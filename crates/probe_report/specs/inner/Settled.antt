-- The answer for a wire, by its word and by the least cost (without what is held) if its variable has a bit.
use Rattle.std.specs.Prelude.{ℕ, zero, suc, ◌+◌, Bool, nat_lt, if◌then◌else◌}

-- the greatest number means none
abbrev pub settled : ℕ → ℕ → ℕ → Bool → ℕ → ℕ
settled zero fewest held bit cost = if nat_lt cost 2147483647 then cost + held else 4294967295
settled (suc zero) fewest held bit cost = if bit then fewest else 4294967295
settled (suc (suc n)) fewest held bit cost = if bit then 4294967295 else fewest
