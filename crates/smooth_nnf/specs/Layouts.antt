-- The graph of the diagnoses that a graph allows under evidence, line by line, and its text.
use Rattle.std.specs.Prelude.{ℕ, ◌+◌, ◌-◌, ◌*◌, ◌==◌, Bool, true, false, not, ◌&&◌, List, [], ◌∷◌, ◌++◌, map, length, Option, Some, None, nat_le, slice_index, if◌then◌else◌}
use Rattle.std.specs.List.{filter, flat_map, enumerate_from, range_with_len}
use Rattle.state_rules.specs.Values.{values}
use Rattle.state_rules.specs.declared.nodes.NodeKind.{NodeKind}
use Rattle.state_rules.specs.declared.nodes.NodeKind.TheVariants.{Literal, And, Or}
use Rattle.state_rules.specs.Graphs.{Node, Graph, literal_node, false_node, mentions}
use Rattle.nnf_text.specs.WrittenGraphs.{graph_text}
use Rattle.minimiser.specs.Costs.{cost_at, part_cost, known_at, node_cost}

abbrev pub and_over : List ℕ → Node
and_over kids = record { what = And; kids = kids }

-- ---- the literals of the parts come first

-- two lines for each part, that for ok first
abbrev pub literal_pair : ℕ → List Node
literal_pair part = literal_node part true ∷ literal_node part false ∷ []

abbrev pub literal_pairs : ℕ → List Node
literal_pairs parts = flat_map literal_pair (range_with_len 1 parts)

abbrev pub literal_line : ℕ → Bool → ℕ
literal_line part true = 2 * (part - 1)
literal_line part false = 2 * (part - 1) + 1

-- the bit that fills in a part: ok, unless it is held to be faulty
abbrev pub filling : Option Bool → Bool
filling None = true
filling (Some ok) = ok

-- the line that fills in a part
abbrev pub filler : List ℕ → ℕ → ℕ
filler evidence part = literal_line part (filling (known_at evidence part))

-- the lines that fill in the missing parts, in order
abbrev pub fillers : List ℕ → ℕ → (ℕ → Bool) → List ℕ
fillers evidence parts missing = map (filler evidence) (filter missing (range_with_len 1 parts))

-- ---- the children of least cost

abbrev pub costs_just : ℕ → Option ℕ → Bool
costs_just cost None = false
costs_just cost (Some other) = other == cost

-- the children with this least cost
abbrev pub cheapest_children : List (Option ℕ) → ℕ → List ℕ → List ℕ
cheapest_children least cost kids = filter (λ child. costs_just cost (cost_at least child)) kids

-- ---- where the lines of the nodes are

-- an Or node has a line for each of its cheapest children before its own
abbrev pub lines_before : List (Option ℕ) → ℕ → NodeKind → List ℕ → ℕ
lines_before least cost (Literal positive var) kids = 0
lines_before least cost And kids = 0
lines_before least cost Or kids = length (cheapest_children least cost kids)

-- a node that is never true has no line before its own
abbrev pub lines_to : List (Option ℕ) → Node → Option ℕ → ℕ
lines_to least node None = 0
lines_to least node (Some cost) = lines_before least cost node.what node.kids

-- the own line of each node, if `number` is that of the first one and its lines begin at `line`
abbrev pub own_lines : List (Option ℕ) → ℕ → ℕ → List Node → List ℕ
own_lines least line number [] = []
own_lines least line number (node ∷ nodes) =
    let own = line + lines_to least node (cost_at least number) in own ∷ own_lines least (own + 1) (number + 1) nodes

-- a graph under evidence, the number of its parts, and the least cost and own line of each node
pub record Layout : Type 0 where
  pub graph : Graph
  pub evidence : List ℕ
  pub parts : ℕ
  pub least : List (Option ℕ)
  pub lines : List ℕ

abbrev pub layout_of : Graph → List ℕ → List ℕ → Layout
layout_of graph evidence costs =
    let least = values (node_cost (known_at evidence) (part_cost costs)) graph.nodes in
    record {
      graph = graph;
      evidence = evidence;
      parts = length costs;
      least = least;
      lines = own_lines least (2 * length costs) 0 graph.nodes;
    }

abbrev pub own_line : Layout → ℕ → ℕ
own_line layout node = slice_index layout.lines node

-- ---- the lines of a node

-- the child of a literal's line: the line of a part's literal, or nothing for another variable (always true)
abbrev pub literal_children : ℕ → ℕ → Bool → List ℕ
literal_children parts var positive = if nat_le var parts then literal_line var positive ∷ [] else []

-- whether a part is below an Or node and not below its child
abbrev pub missing : Layout → ℕ → ℕ → ℕ → Bool
missing layout number child part = mentions layout.graph.nodes part number && not (mentions layout.graph.nodes part child)

abbrev pub child_line : Layout → ℕ → ℕ → Node
child_line layout number child =
    and_over (own_line layout child ∷ fillers layout.evidence layout.parts (missing layout number child))

-- an Or node over the `count` lines before its own
abbrev pub or_behind : ℕ → ℕ → Node
or_behind own count = record { what = Or; kids = range_with_len (own - count) count }

abbrev pub or_lines : Layout → ℕ → List ℕ → List Node
or_lines layout number cheapest =
    map (child_line layout number) cheapest ++ or_behind (own_line layout number) (length cheapest) ∷ []

abbrev pub lines_by : Layout → ℕ → ℕ → NodeKind → List ℕ → List Node
lines_by layout number cost (Literal positive var) kids = and_over (literal_children layout.parts var positive) ∷ []
lines_by layout number cost And kids = and_over (map (own_line layout) kids) ∷ []
lines_by layout number cost Or kids = or_lines layout number (cheapest_children layout.least cost kids)

-- a node that is never true becomes false
abbrev pub lines_at : Layout → ℕ → Node → Option ℕ → List Node
lines_at layout number node None = false_node ∷ []
lines_at layout number node (Some cost) = lines_by layout number cost node.what node.kids

abbrev pub node_lines : Layout → ℕ × Node → List Node
node_lines layout (number, node) = lines_at layout number node (cost_at layout.least number)

-- ---- all lines

-- the root with the parts that are not below it
abbrev pub last_at : Layout → ℕ → Option ℕ → Node
last_at layout root None = false_node
last_at layout root (Some cost) =
    and_over (own_line layout root ∷ fillers layout.evidence layout.parts (λ part. not (mentions layout.graph.nodes part root)))

abbrev pub last_line : Layout → Node
last_line layout = let root = length layout.graph.nodes - 1 in last_at layout root (cost_at layout.least root)

abbrev pub all_lines : Layout → List Node
all_lines layout =
    literal_pairs layout.parts
    ++ (flat_map (node_lines layout) (enumerate_from 0 layout.graph.nodes) ++ last_line layout ∷ [])

-- the graph of the diagnoses, over the parts
abbrev pub least_graph : Graph → List ℕ → List ℕ → Graph
least_graph graph evidence costs = record { nodes = all_lines (layout_of graph evidence costs); vars = length costs }

abbrev pub least_text : Graph → List ℕ → List ℕ → List ℕ
least_text graph evidence costs = graph_text (least_graph graph evidence costs)
