-- The memory that the graph of the diagnoses takes.
use Rattle.std.specs.Prelude.{ℕ, ◌+◌, ◌*◌}
use Rattle.part_sets.specs.Numbers.{part_words}

-- the number of words to draw the graph of the diagnoses of a graph with `nodes` nodes, if the sets of parts below them are kept: two each
abbrev pub drawing_words : ℕ → ℕ
drawing_words nodes = nodes * 2

-- the same with these sets
abbrev pub least_words : ℕ → ℕ → ℕ
least_words nodes parts = nodes * (2 + part_words parts)

-- the number of bits to count for it: these words, and the kept sets of the parts below the nodes
abbrev pub drawing_bits : ℕ → ℕ → ℕ
drawing_bits nodes parts = nodes * (32 * (2 + part_words parts))
