-- Graphs in `.nnf` text: the graph of a text, or the first reason why there is none.
use Rattle.std.specs.Prelude.{ℕ, zero, suc, ◌-◌, ◌*◌, ◌^◌, Bool, true, false, not, ◌&&◌, List, [], ◌∷◌, ◌++◌, map, length, Option, Some, None, Result, Ok, Err, codes, ◌==◌, nat_lt, nat_le, if◌then◌else◌}
use Rattle.std.specs.List.{list_all, find, filter, filter_map, enumerate_from, range_with_len}
use Rattle.std.specs.Option.{option_map}
use Rattle.text_rules.specs.Names.{same_name}
use Rattle.text_rules.specs.TextLines.{all_lines}
use Rattle.text_rules.specs.Tokens.{words}
use Rattle.text_rules.specs.Numbers.{number_in}
use Rattle.state_rules.specs.declared.nodes.NodeKind.{NodeKind}
use Rattle.state_rules.specs.declared.nodes.NodeKind.TheVariants.{Literal, And, Or}
use Rattle.state_rules.specs.Graphs.{Node, Graph, edges, shares}
use Rattle.nnf_text.specs.declared.checking.TheConstants.{BITS_LIMIT}

-- numbers of up to ten digits, and of up to twenty
abbrev pub small_number : List ℕ → Option ℕ
small_number word = number_in 10 0 (2 ^ 32 - 1) word

abbrev pub great_number : List ℕ → Option ℕ
great_number word = number_in 20 0 (2 ^ 64 - 1) word

-- the numbers of nodes, edges and variables in the header
pub record Header : Type 0 where
  pub nodes : ℕ
  pub edges : ℕ
  pub vars : ℕ

abbrev pub header_from : Option ℕ → Option ℕ → Option ℕ → Option Header
header_from (Some zero) edges vars = None
header_from (Some (suc n)) (Some edges) (Some vars) = Some (record { nodes = suc n; edges = edges; vars = vars })
header_from nodes edges vars = None

abbrev pub header_of : List (List ℕ) → Option Header
header_of (word ∷ nodes ∷ edges ∷ vars ∷ []) =
    if same_name word (codes "nnf") then header_from (small_number nodes) (great_number edges) (small_number vars) else None
header_of ws = None

abbrev pub number_before : Option ℕ → Option (List ℕ) → Option (List ℕ)
number_before None ns = None
number_before (Some n) ns = option_map (λ rest. n ∷ rest) ns

-- the words as numbers, if each is one
abbrev pub numbers : List (List ℕ) → Option (List ℕ)
numbers [] = Some []
numbers (w ∷ ws) = number_before (small_number w) (numbers ws)

-- a literal, with a minus sign before its number if negated
abbrev pub literal_with : Bool → Option ℕ → Option Node
literal_with positive None = None
literal_with positive (Some v) = Some (record { what = Literal positive v; kids = [] })

abbrev pub literal_of : List ℕ → Option Node
literal_of [] = None
literal_of (b ∷ bytes) = if b == 45 then literal_with false (small_number bytes) else literal_with true (small_number (b ∷ bytes))

-- a node of this kind, if the first number counts the others
abbrev pub counted : NodeKind → Option (List ℕ) → Option Node
counted kind None = None
counted kind (Some []) = None
counted kind (Some (c ∷ kids)) = if c == length kids then Some (record { what = kind; kids = kids }) else None

-- the number after O means nothing
abbrev pub or_of : Option ℕ → List (List ℕ) → Option Node
or_of None ws = None
or_of (Some j) ws = counted Or (numbers ws)

abbrev pub node_of : List (List ℕ) → Option Node
node_of [] = None
node_of (word ∷ []) = None
node_of (word ∷ first ∷ []) =
    if same_name word (codes "L") then literal_of first
    else (if same_name word (codes "A") then counted And (numbers (first ∷ [])) else None)
node_of (word ∷ first ∷ second ∷ rest) =
    if same_name word (codes "A") then counted And (numbers (first ∷ second ∷ rest))
    else (if same_name word (codes "O") then or_of (small_number first) (second ∷ rest) else None)

-- whether a literal's variable is from 1 to `vars`
abbrev pub variable_fits : ℕ → NodeKind → Bool
variable_fits vars (Literal positive var) = nat_le 1 var && nat_le var vars
variable_fits vars And = true
variable_fits vars Or = true

-- the fault of a line: it has none of the forms, a child is no earlier node, or its variable is out of range
pub data LineFault : Type 0 where
  WrongLine : LineFault
  WrongChild : LineFault
  WrongVariable : LineFault

abbrev pub node_fault : ℕ → ℕ → Option Node → Option LineFault
node_fault vars own None = Some WrongLine
node_fault vars own (Some node) =
    if not (list_all (λ child. nat_lt child own) node.kids) then Some WrongChild
    else (if variable_fits vars node.what then None else Some WrongVariable)

-- Refusals: no header, a line with its fault, a number that differs from the header's, too many bits, and a variable
-- shared by children of an And node. `parsed` gives only the first three.
pub data Refusal : Type 0 where
  NoHeader : Refusal
  AtLine : (line : ℕ) (fault : LineFault) → Refusal
  Counts : (said found : ℕ) → Refusal
  TooLarge : (bits : ℕ) → Refusal
  Shared : (node variable : ℕ) → Refusal

abbrev pub has_words : ℕ × List (List ℕ) → Bool
has_words (line, []) = false
has_words (line, (w ∷ ws)) = true

-- the words of each line that has any, with its number
abbrev pub filled_lines : List ℕ → List (ℕ × List (List ℕ))
filled_lines text = filter has_words (enumerate_from 1 (map words (all_lines text)))

abbrev pub fault_at : ℕ → Option LineFault → Option Refusal
fault_at line None = None
fault_at line (Some fault) = Some (AtLine line fault)

-- the refusal of a node line, given with the node's number
abbrev pub line_fault : ℕ → ℕ × (ℕ × List (List ℕ)) → Option Refusal
line_fault vars l = fault_at l.1.0 (node_fault vars l.0 (node_of l.1.1))

-- a refusal if the two numbers differ
abbrev pub differs : ℕ → ℕ → List Refusal
differs said found = if said == found then [] else Counts said found ∷ []

abbrev pub node_at_line : ℕ × List (List ℕ) → Option Node
node_at_line l = node_of l.1

-- a graph, or a refusal
abbrev pub Parsed : Type 0
Parsed = Result Graph Refusal

abbrev pub read_unless : Graph → List Refusal → Parsed
read_unless graph [] = Ok graph
read_unless graph (r ∷ rest) = Err r

abbrev pub parsed_below : List (ℕ × List (List ℕ)) → Option Header → Parsed
parsed_below lines None = Err NoHeader
parsed_below lines (Some header) =
    let nodes = filter_map node_at_line lines in
    read_unless (record { nodes = nodes; vars = header.vars })
    (filter_map (line_fault header.vars) (enumerate_from 0 lines) ++ differs header.nodes (length nodes) ++ differs header.edges (edges nodes))

abbrev pub parsed_lines : List (ℕ × List (List ℕ)) → Parsed
parsed_lines [] = Err NoHeader
parsed_lines (first ∷ rest) = parsed_below rest (header_of first.1)

abbrev pub parsed : List ℕ → Parsed
parsed text = parsed_lines (filled_lines text)

-- the refusal of a node whose children share this variable
abbrev pub shared_at : ℕ → Option ℕ → Option Refusal
shared_at own None = None
shared_at own (Some v) = Some (Shared own v)

-- the refusal of the least variable that a node's children share
abbrev pub node_shared : Graph → ℕ × Node → Option Refusal
node_shared graph n = shared_at n.0 (find (shares graph.nodes n.1) (range_with_len 1 graph.vars))

-- the refusals of all nodes
abbrev pub all_shared : Graph → List Refusal
all_shared graph = filter_map (node_shared graph) (enumerate_from 0 graph.nodes)

-- The graph, if nodes times variables are within the limit (a check takes that long) and it is decomposable.
abbrev pub checked : Graph → Parsed
checked graph =
    let bits = length graph.nodes * graph.vars in
    if nat_lt BITS_LIMIT bits then Err (TooLarge bits) else read_unless graph (all_shared graph)

abbrev pub checked_if : Parsed → Parsed
checked_if (Err refusal) = Err refusal
checked_if (Ok graph) = checked graph

-- the graph of a text, or the first reason why there is none or it is not decomposable
abbrev pub read_graph : List ℕ → Parsed
read_graph text = checked_if (parsed text)
