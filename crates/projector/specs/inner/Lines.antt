-- The lines of the literals of held parts.
use Rattle.std.specs.Prelude.{ℕ, Bool, List, [], Option, Some, None}
use Rattle.text_rules.specs.Tokens.{spaced}
use Rattle.state_rules.specs.Graphs.{literal_node}
use Rattle.nnf_text.specs.WrittenGraphs.{node_words}

-- the line of a part, or nothing if nothing is known of it
abbrev pub held_line : ℕ × Option Bool → List ℕ
held_line (part, None) = []
held_line (part, Some ok) = spaced (node_words (literal_node part ok))
