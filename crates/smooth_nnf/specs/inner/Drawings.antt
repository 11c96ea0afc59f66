-- What a text is drawn from, as stored.
use Rattle.std.specs.Prelude.{◌≡◌, ℕ, ◌*◌, ◌+◌, ◌-◌, ◌^◌, ◌<◌, ◌≤◌, Bool, true, not, ◌&&◌, List, [], ◌∷◌, ◌++◌, map, length, slice_index, Option, Some, None, IfSome, All}
use Rattle.std.specs.List.{filter, range_with_len}
use Rattle.state_rules.specs.declared.nodes.NodeKind.TheVariants.{Or}
use Rattle.state_rules.specs.Graphs.{Node, Graph, node_at, mentions, edges, IsGraph}
use Rattle.state_rules.specs.Bits.{has_bit}
use Rattle.minimiser.specs.Costs.{cost_at}
use Rattle.state_rules.specs.Numbers.{cost_in}
use Rattle.part_sets.specs.Numbers.{part_words}
use Rattle.part_sets.specs.PartSets.{ArePartsBelow, AreLacking}
use Rattle.smooth_nnf.specs.Layouts.{Layout, and_over, fillers, lines_to, own_lines}

-- a layout with its costs as numbers, the sets of the parts below each node, and, if known, whether a child lacks one
pub record Drawing : Type 0 where
  pub graph : Graph
  pub evidence : List ℕ
  pub parts : ℕ
  pub values : List ℕ
  pub lines : List ℕ
  pub sets : List ℕ
  pub lacking : Option (List ℕ)

abbrev pub shown : Drawing → Layout
shown drawing = record {
  graph = drawing.graph;
  evidence = drawing.evidence;
  parts = drawing.parts;
  least = map cost_in drawing.values;
  lines = drawing.lines;
}

-- each node has a cost, a line and a set
pub record IsDrawing (drawing : Drawing) : Type 0 where
  pub long : length drawing.evidence ≡ drawing.graph.vars
  pub known : All (λ w. w < 3) drawing.evidence
  pub within : drawing.parts ≤ drawing.graph.vars
  pub few : 2 * drawing.parts + 1 < 2 ^ 32
  pub costs : length drawing.values ≡ length drawing.graph.nodes
  pub places : length drawing.lines ≡ length drawing.graph.nodes
  pub placed : drawing.lines ≡ own_lines (map cost_in drawing.values) (2 * drawing.parts) 0 drawing.graph.nodes
  pub count : length drawing.graph.nodes + edges drawing.graph.nodes + 2 * drawing.parts + 1 < 2 ^ 32
  pub wide : length drawing.graph.nodes * part_words drawing.parts ≤ length drawing.sets
  pub below : ArePartsBelow drawing.graph drawing.parts drawing.sets (length drawing.graph.nodes)
  pub lacks : IfSome drawing.lacking (AreLacking drawing.graph drawing.parts)
  pub valid : IsGraph drawing.graph

-- the number of lines up to the last of these nodes, if `number` is that of the first one and its lines begin at `line`
abbrev pub lines_after : List (Option ℕ) → ℕ → ℕ → List Node → ℕ
lines_after least line number [] = line
lines_after least line number (node ∷ nodes) =
    lines_after least (line + lines_to least node (cost_at least number) + 1) (number + 1) nodes

-- the parts that a line must have below it: those of a node, or all
abbrev pub is_over : List Node → Option ℕ → ℕ → Bool
is_over nodes None part = true
is_over nodes (Some node) part = mentions nodes part node

-- those of them that are not below `node`
abbrev pub missing_in : Drawing → Option ℕ → ℕ → ℕ → Bool
missing_in drawing over node part = is_over drawing.graph.nodes over part && not (mentions drawing.graph.nodes part node)

-- the line of a node with the missing parts filled in
abbrev pub filled_line : Drawing → Option ℕ → ℕ → Node
filled_line drawing over node =
    and_over (slice_index drawing.lines node ∷ fillers drawing.evidence drawing.parts (missing_in drawing over node))

-- the node, if there is one, is in the graph
abbrev pub IsNodeOf : Drawing → Option ℕ → Type 0
IsNodeOf drawing None = Unit {0}
IsNodeOf drawing (Some node) = node < length drawing.graph.nodes

-- a child of an Or node
pub record IsChildOf (nodes : List Node) (node child : ℕ) : Type 0 where
  pub what : (node_at nodes node).what ≡ Or
  pub place : ℕ
  pub within : place < length (node_at nodes node).kids
  pub child_is : slice_index (node_at nodes node).kids place ≡ child

-- a line is filled in up to the parts of an Or node for its child, and up to all parts for the last node
abbrev pub IsUnder : Drawing → Option ℕ → ℕ → Type 0
IsUnder drawing None child = child ≡ length drawing.graph.nodes - 1
IsUnder drawing (Some node) child = (node < length drawing.graph.nodes) × IsChildOf drawing.graph.nodes node child

-- the parts of the bits of a word
abbrev pub word_parts : ℕ → ℕ → List ℕ
word_parts word bits = filter (λ part. has_bit bits (part - (32 * word + 1))) (range_with_len (32 * word + 1) 32)

-- the number of parts below a node
abbrev pub part_count : Drawing → ℕ → ℕ
part_count drawing node = length (filter (λ part. mentions drawing.graph.nodes part node) (range_with_len 1 drawing.parts))

-- the parts of the bits of words, if the first word has number `word`
abbrev pub set_parts : ℕ → List ℕ → List ℕ
set_parts word [] = []
set_parts word (bits ∷ words) = word_parts word bits ++ set_parts (word + 1) words
