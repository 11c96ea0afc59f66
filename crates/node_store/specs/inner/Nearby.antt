-- The hashes of nodes. They have no meaning.
use Rattle.std.specs.Prelude.{ℕ, ◌+◌, ◌*◌, ◌/◌, ◌^◌, List, [], ◌∷◌, bit_and, bit_or, bit_xor}
use Rattle.node_store.specs.declared.nearby.NearHasher.{NearHasher}

abbrev pub mixed : ℕ → ℕ → ℕ
mixed hash word = let product = bit_xor hash word * 0x9E3779B1 in bit_xor (product / 2 ^ 32) (bit_and product 0xFFFFFFFF)

-- the hasher after a write
abbrev pub after : NearHasher → List ℕ → NearHasher
after h (a ∷ b ∷ c ∷ d ∷ []) = record { others = mixed h.others h.before; before = h.last; last = a + b * 256 + c * 65536 + d * 16777216 }
after h bytes = h

abbrev pub finished : NearHasher → ℕ
finished h = bit_or (bit_and (mixed (mixed h.others (h.last / 4)) (h.before / 64)) 0x00FFFFFF) (bit_and (mixed (mixed h.others h.before) h.last) 0xFF000000)
