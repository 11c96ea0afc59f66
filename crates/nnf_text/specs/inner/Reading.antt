-- The steps from the lines of a text to nodes.
use Rattle.std.specs.Prelude.{ℕ, List, [], ◌++◌, map, length}
use Rattle.std.specs.List.{filter, filter_map, enumerate_from}
use Rattle.text_rules.specs.Tokens.{words}
use Rattle.state_rules.specs.declared.nodes.NodeKind.{NodeKind}
use Rattle.state_rules.specs.Graphs.{Node, edges}
use Rattle.nnf_text.specs.GraphTexts.{Header, Parsed, read_unless, has_words, node_at_line, line_fault, differs}
use Rattle.nnf_text.specs.declared.header.Header.{Header as DeclaredHeader}

-- a node over these children
abbrev pub node_with : List ℕ → NodeKind → Node
node_with kids kind = record { what = kind; kids = kids }

abbrev pub childless : NodeKind → Node
childless kind = node_with [] kind

abbrev pub said_by : DeclaredHeader → Header
said_by header = record { nodes = header.nodes; edges = header.edges; vars = header.vars }

-- the words of each line that has any, with its number; the first line has number `number`
abbrev pub filled_from : ℕ → List (List ℕ) → List (ℕ × List (List ℕ))
filled_from number lines = filter has_words (enumerate_from number (map words lines))

-- these nodes, then those of the lines, or the first refusal of a line
abbrev pub nodes_behind : ℕ → List Node → List (ℕ × List (List ℕ)) → Parsed
nodes_behind vars nodes lines =
    read_unless (record { nodes = nodes ++ filter_map node_at_line lines; vars = vars }) (filter_map (line_fault vars) (enumerate_from (length nodes) lines))

-- the graph of these nodes, or the first number that differs from the header's
abbrev pub if_counted : Header → List Node → Parsed
if_counted header nodes = read_unless (record { nodes = nodes; vars = header.vars }) (differs header.nodes (length nodes) ++ differs header.edges (edges nodes))
