-- What is at a place of a shelf.
use Rattle.std.specs.Prelude.{ℕ, List, [], Vec, String, Option, Some, None, slice_get}
use Rattle.std.specs.declared.alloc.Global.{Global}

-- the bytes of a pair, or none
abbrev pub pair_bytes : Option (String Global × Vec ℕ Global) → List ℕ
pair_bytes None = []
pair_bytes (Some pair) = pair.1.items

-- the bytes of the pair at this place, or none past the last
abbrev pub bytes_at : List (String Global × Vec ℕ Global) → ℕ → List ℕ
bytes_at pairs place = pair_bytes (slice_get pairs place)
