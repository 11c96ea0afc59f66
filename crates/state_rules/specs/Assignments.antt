-- Bits for numbered variables.
use Rattle.std.specs.Prelude.{ℕ, ◌-◌, Bool, List}
use Rattle.state_rules.specs.Bits.{bit_in}

-- an assignment gives each variable a bit
abbrev pub Assignment : Type 0
Assignment = ℕ → Bool

-- bits as an assignment: variable 1 has the first bit
abbrev pub assignment : List Bool → Assignment
assignment bits v = bit_in bits (v - 1)
