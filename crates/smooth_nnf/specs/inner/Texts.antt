-- The texts of lines that are filled in.
use Rattle.std.specs.Prelude.{ℕ, ◌+◌, ◌*◌, ◌&&◌, Option, List, [], ◌∷◌, map, length, nat_le, decimal, if◌then◌else◌}
use Rattle.std.specs.List.{filter, flat_map, range_with_len}
use Rattle.text_rules.specs.Tokens.{spaced}
use Rattle.state_rules.specs.Graphs.{Node}
use Rattle.state_rules.specs.Bits.{has_bit}
use Rattle.nnf_text.specs.WrittenGraphs.{node_words}
use Rattle.minimiser.specs.Costs.{cost_at}
use Rattle.state_rules.specs.Numbers.{cost_in}
use Rattle.smooth_nnf.specs.Layouts.{filler, costs_just, child_line}
use Rattle.smooth_nnf.specs.inner.Sets.{part_at}
use Rattle.smooth_nnf.specs.inner.Drawings.{Drawing, shown, missing_in}

-- `numbers`, each after a space
abbrev pub numbers_text : List ℕ → List ℕ
numbers_text numbers = flat_map (λ n. 32 ∷ decimal n) numbers

abbrev pub lines_text : List Node → List ℕ
lines_text nodes = flat_map (λ node. spaced (node_words node)) nodes

-- the line that fills in a bit's part, if the word has the bit
abbrev pub bit_text : List ℕ → ℕ → ℕ → ℕ → List ℕ
bit_text evidence word bits b = if has_bit bits b then 32 ∷ decimal (filler evidence (part_at word b)) else []

-- the lines that fill in the missing parts of a word
abbrev pub word_text : Drawing → ℕ → Option ℕ → ℕ → List ℕ
word_text drawing node over word =
    numbers_text (map (filler drawing.evidence)
    (filter (λ part. nat_le part drawing.parts && missing_in drawing over node part) (range_with_len (32 * word + 1) 32)))

-- the line of a child that has the cost, or nothing for another
abbrev pub child_text : Drawing → ℕ → ℕ → ℕ → List ℕ
child_text drawing node cost child =
    if costs_just cost (cost_at (map cost_in drawing.values) child) then spaced (node_words (child_line (shown drawing) node child)) else []

-- the edges of the line of a child that has the cost, with that to it
abbrev pub child_edges : Drawing → ℕ → ℕ → ℕ → ℕ
child_edges drawing node cost child =
    if costs_just cost (cost_at (map cost_in drawing.values) child) then length (child_line (shown drawing) node child).kids + 1 else 0
