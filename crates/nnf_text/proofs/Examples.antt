-- Worked rows: what texts read as, and how graphs are written.
use Rattle.std.proofs.Common.{◌≡◌, ℕ, true, false, List, [], ◌∷◌, ◌++◌, refl, map}
use Rattle.std.specs.Prelude.{codes, Ok, Err}
use Rattle.std.specs.Fmt.{digits}
use Rattle.state_rules.specs.declared.nodes.NodeKind.TheVariants.{Or}
use Rattle.state_rules.specs.Graphs.{Graph, literal_node, true_node, false_node}
use Rattle.nnf_text.specs.GraphTexts.{parsed, read_graph, NoHeader, WrongLine, WrongChild, WrongVariable, AtLine, Counts, TooLarge, Shared}
use Rattle.nnf_text.specs.WrittenGraphs.{graph_text}

abbrev text : List (List ℕ) → List ℕ
text [] = []
text (l ∷ ls) = l ++ (10 ∷ text ls)

abbrev either : Graph
either = record { nodes = literal_node 1 true ∷ literal_node 1 false ∷ record { what = Or; kids = 0 ∷ 1 ∷ [] } ∷ []; vars = 1 }

-- the number after O is left out
an_or : parsed (text (map codes ("nnf 3 2 1" ∷ "L 1" ∷ "L -1" ∷ "O 1 2 0 1" ∷ []))) ≡ Ok either
an_or = refl

no_byte : parsed [] ≡ Err NoHeader
no_byte = refl

counts : parsed (text (map codes ("nnf 2 0 1" ∷ "L 1" ∷ []))) ≡ Err (Counts 2 1)
counts = refl

child : parsed (text (map codes ("nnf 2 1 1" ∷ "A 1 1" ∷ "L 1" ∷ []))) ≡ Err (AtLine 2 WrongChild)
child = refl

variable : parsed (text (map codes ("nnf 1 0 1" ∷ "L 2" ∷ []))) ≡ Err (AtLine 2 WrongVariable)
variable = refl

no_form : parsed (text (map codes ("nnf 1 0 1" ∷ "X 1" ∷ []))) ≡ Err (AtLine 2 WrongLine)
no_form = refl

many_children : parsed (text (map codes ("nnf 1 0 1" ∷ "A 4294967295 0" ∷ []))) ≡ Err (AtLine 2 WrongLine)
many_children = refl

great_header : parsed (text (map codes ("nnf 4294967296 0 1" ∷ "A 0" ∷ []))) ≡ Err NoHeader
great_header = refl

-- ---- how a graph is written

written_or : graph_text either ≡ text (map codes ("nnf 3 2 1" ∷ "L 1" ∷ "L -1" ∷ "O 0 2 0 1" ∷ []))
unfolding digits
written_or = refl

over_more_variables : graph_text (record { nodes = true_node ∷ []; vars = 12 }) ≡ text (map codes ("nnf 1 0 12" ∷ "A 0" ∷ []))
unfolding digits
over_more_variables = refl

-- ---- verdicts

shared : read_graph (text (map codes ("nnf 3 2 1" ∷ "L 1" ∷ "L -1" ∷ "A 2 0 1" ∷ []))) ≡ Err (Shared 2 1)
shared = refl

a_child_named_twice : read_graph (text (map codes ("nnf 2 2 1" ∷ "L 1" ∷ "A 2 0 0" ∷ []))) ≡ Err (Shared 1 1)
a_child_named_twice = refl

too_large : read_graph (text (map codes ("nnf 1 0 2147483649" ∷ "A 0" ∷ []))) ≡ Err (TooLarge 2147483649)
too_large = refl

accepted : read_graph (text (map codes ("nnf 3 2 1" ∷ "L 1" ∷ "L -1" ∷ "O 1 2 0 1" ∷ []))) ≡ Ok (either)
accepted = refl

-- ---- refused texts

blank_lines_alone : read_graph (text (map codes ("" ∷ " " ∷ []))) ≡ Err NoHeader
blank_lines_alone = refl

no_nodes_said : read_graph (text (map codes ("nnf 0 0 1" ∷ []))) ≡ Err NoHeader
no_nodes_said = refl

-- blank lines are counted
line_behind_blank_ones : read_graph (text (map codes ("" ∷ "nnf 1 0 1" ∷ " " ∷ "" ∷ "L 1 1" ∷ []))) ≡ Err (AtLine 5 WrongLine)
line_behind_blank_ones = refl

-- the form is reported before a child
form_before_child : read_graph (text (map codes ("nnf 1 0 1" ∷ "A 3 7" ∷ []))) ≡ Err (AtLine 2 WrongLine)
form_before_child = refl

own_child : read_graph (text (map codes ("nnf 1 1 1" ∷ "A 1 0" ∷ []))) ≡ Err (AtLine 2 WrongChild)
own_child = refl

variable_0 : read_graph (text (map codes ("nnf 1 0 1" ∷ "L -0" ∷ []))) ≡ Err (AtLine 2 WrongVariable)
variable_0 = refl

-- the first line with a fault, and lines before counts
first_fault : read_graph (text (map codes ("nnf 9 9 1" ∷ "L 2" ∷ "X" ∷ []))) ≡ Err (AtLine 2 WrongVariable)
first_fault = refl

far_fewer_nodes : read_graph (text (map codes ("nnf 4294967295 0 1" ∷ "L 1" ∷ []))) ≡ Err (Counts 4294967295 1)
far_fewer_nodes = refl

-- nodes are counted before edges
fewer_edges : read_graph (text (map codes ("nnf 2 2 1" ∷ "L 1" ∷ "A 1 0" ∷ []))) ≡ Err (Counts 2 1)
fewer_edges = refl

most_variables : read_graph (text (map codes ("nnf 1 0 4294967295" ∷ "A 0" ∷ []))) ≡ Err (TooLarge 4294967295)
most_variables = refl

-- a false node without variables
accepted_false : read_graph (text (map codes ("nnf 1 0 0" ∷ "O 0 0" ∷ []))) ≡ Ok (record { nodes = false_node ∷ []; vars = 0 })
accepted_false = refl

-- zeros before a number, and the number after O
accepted_spellings : read_graph (text (map codes ("nnf 02 0000000000000000001 01" ∷ "L 0000000001" ∷ "O 4294967295 1 00" ∷ [])))
    ≡ Ok (record { nodes = literal_node 1 true ∷ record { what = Or; kids = 0 ∷ [] } ∷ []; vars = 1 })
accepted_spellings = refl

-- ---- numbers past their widths

eleven_digits : read_graph (text (map codes ("nnf 1 0 1" ∷ "L 00000000001" ∷ []))) ≡ Err (AtLine 2 WrongLine)
eleven_digits = refl

variable_past_32_bits : read_graph (text (map codes ("nnf 1 0 1" ∷ "L -4294967296" ∷ []))) ≡ Err (AtLine 2 WrongLine)
variable_past_32_bits = refl

greatest_variable : read_graph (text (map codes ("nnf 1 0 1" ∷ "L 4294967295" ∷ []))) ≡ Err (AtLine 2 WrongVariable)
greatest_variable = refl

two_signs : read_graph (text (map codes ("nnf 1 0 1" ∷ "L --1" ∷ []))) ≡ Err (AtLine 2 WrongLine)
two_signs = refl

edges_past_64_bits : read_graph (text (map codes ("nnf 1 18446744073709551616 1" ∷ "A 0" ∷ []))) ≡ Err NoHeader
edges_past_64_bits = refl

most_edges : read_graph (text (map codes ("nnf 1 18446744073709551615 1" ∷ "A 0" ∷ []))) ≡ Err (Counts 18446744073709551615 0)
most_edges = refl

five_words_of_a_header : read_graph (text (map codes ("nnf 1 0 1 0" ∷ "A 0" ∷ []))) ≡ Err NoHeader
five_words_of_a_header = refl
