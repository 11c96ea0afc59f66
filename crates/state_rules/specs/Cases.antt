-- What a session knows: the bits seen on wires, and the parts held to be ok or faulty.
use Rattle.std.specs.Prelude.{ℕ, Bool, true, ◌&&◌, List, [], ◌∷◌, replicate, Option, Some, None}
use Rattle.state_rules.specs.Bits.{same_bit}

-- for each wire the bit that was seen, and for each part whether it is held to be ok (1) or faulty (0)
pub record Case : Type 0 where
  pub seen : List (Option Bool)
  pub held : List (Option Bool)

-- the case in which nothing is known
abbrev pub empty_case : ℕ → ℕ → Case
empty_case wires parts = record { seen = replicate wires None; held = replicate parts None }

-- whether a bit does not contradict what is known of it
abbrev pub agrees_at : Option Bool → Bool → Bool
agrees_at None bit = true
agrees_at (Some known) bit = same_bit known bit

-- whether no bit contradicts what is known of it
abbrev pub agrees : List (Option Bool) → List Bool → Bool
agrees [] bits = true
agrees (known ∷ rest) [] = true
agrees (known ∷ rest) (bit ∷ bits) = agrees_at known bit && agrees rest bits
