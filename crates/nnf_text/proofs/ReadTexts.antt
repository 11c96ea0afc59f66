-- What is known of the graph of a text.
use Rattle.std.proofs.Common.{◌≡◌, ℕ, ◌+◌, ◌^◌, ◌<◌, ◌≤◌, Bool, true, List, [], ◌∷◌, ◌++◌, length, Option, Some, None, Ok, refl, arith}
use Rattle.std.proofs.lemmas.Bool.Decides.{nat_tests}
use Rattle.std.specs.List.{filter_map, enumerate_from}
use Rattle.std.proofs.lemmas.Bool.{and_from, eqb-true, eq-eqb, lt-ltb, not-false}
use Rattle.std.proofs.lemmas.List.{length-map}
use Rattle.std.proofs.lemmas.List.FromFn.{length-enumerate_from}
use Rattle.std.proofs.lemmas.List.Sums.{length-filter, count_by-le-length}
use Rattle.text_rules.proofs.LineLemmas.{length-all_lines}
use Rattle.text_rules.proofs.NumberLemmas.{number_in-most}
use Rattle.state_rules.specs.declared.nodes.TheConstants.{CHILD_LIMIT}
use Rattle.state_rules.specs.declared.nodes.NodeKind.{NodeKind}
use Rattle.state_rules.specs.declared.nodes.NodeKind.TheVariants.{Literal}
use Rattle.state_rules.specs.Graphs.{Node, Graph, node_fits, nodes_fit}
use Rattle.nnf_text.specs.GraphTexts.{numbers, literal_of, counted, node_of, node_fault, line_fault, node_at_line, filled_lines, Header, header_of, parsed_below, parsed_lines, parsed, checked}
use Rattle.nnf_text.proofs.Options.{none≢some}

-- ---- the node of a line

-- a literal has no children, and a node has fewer than the limit
record IsShaped (node : Node) : Type 0 where
  few : length node.kids < CHILD_LIMIT
  literal : (v : ℕ) (positive : Bool) → node.what ≡ Literal positive v → node.kids ≡ []

IsShaped-word : (word : List ℕ) (node : Node) → literal_of word ≡ Some node → IsShaped node
IsShaped-word word node e = grind (arith, nat_tests, none≢some)

-- the first of the numbers fits
numbers-first : (ws : List (List ℕ)) (c : ℕ) (kids : List ℕ) → numbers ws ≡ Some (c ∷ kids) → c < 2 ^ 32
numbers-first [] c kids e = absurd (let no : ⊥ = cc in no)
numbers-first (w ∷ ws) c kids e = grind (arith, nat_tests, none≢some, number_in-most)

IsShaped-counted : (kind : NodeKind) → ((v : ℕ) (positive : Bool) → kind ≡ Literal positive v → ⊥) → (o : Option (List ℕ)) → ((c : ℕ) (kids : List ℕ) → o ≡ Some (c ∷ kids) → c < 2 ^ 32) → (node : Node) → counted kind o ≡ Some node → IsShaped node
IsShaped-counted kind other o small node e = grind (arith, nat_tests, none≢some, eqb-true)

IsShaped-line : (ws : List (List ℕ)) (node : Node) → node_of ws ≡ Some node → IsShaped node
IsShaped-line [] node e = absurd (none≢some node e)
IsShaped-line (word ∷ []) node e = absurd (none≢some node e)
IsShaped-line (word ∷ first ∷ []) node e = grind (arith, nat_tests, IsShaped-word, IsShaped-counted, numbers-first, none≢some)
IsShaped-line (word ∷ first ∷ second ∷ rest) node e = grind (arith, nat_tests, IsShaped-counted, numbers-first, none≢some)

-- ---- lines without a fault

node-from : (vars own : ℕ) (node : Node) → IsShaped node → node_fault vars own (Some node) ≡ None → node_fits vars own node ≡ true
node-from vars own node shaped e = grind (arith, nat_tests, none≢some, and_from, not-false, eq-eqb, lt-ltb)

nodes-from : (vars own : ℕ) (lines : List (ℕ × List (List ℕ))) → filter_map (line_fault vars) (enumerate_from own lines) ≡ [] → nodes_fit vars own (filter_map node_at_line lines) ≡ true
nodes-from vars own [] e = refl
nodes-from vars own (l ∷ lines) e = grind (arith, nat_tests, none≢some, and_from, node-from, IsShaped-line, nodes-from vars (own + 1) lines)

-- ---- a text

length-filter_map : {A B : Type 0} (h : A → Option B) (xs : List A) → length (filter_map h xs) ≤ length xs
length-filter_map h [] = omega arith
length-filter_map h (x ∷ xs) = grind (arith, nat_tests, h, length-filter_map h xs)

both_nothing : {A : Type 0} (xs ys : List A) → xs ++ ys ≡ [] → (xs ≡ []) × (ys ≡ [])
both_nothing [] ys e = (refl, e)
both_nothing (x ∷ xs) ys e = absurd (let no : ⊥ = cc in no)

record IsHeader (header : Header) : Type 0 where
  some : 0 < header.nodes
  fits : header.vars < 2 ^ 32

IsHeader-line : (ws : List (List ℕ)) (header : Header) → header_of ws ≡ Some header → IsHeader header
IsHeader-line ws header e = grind (arith, nat_tests, none≢some, number_in-most)

-- what is known of the graph of a text
pub record IsParsed (graph : Graph) (most : ℕ) : Type 0 where
  pub some : 0 < length graph.nodes
  pub few : length graph.nodes ≤ most
  pub vars_fit : graph.vars < 2 ^ 32
  pub fit : nodes_fit graph.vars 0 graph.nodes ≡ true

IsParsed-below : (lines : List (ℕ × List (List ℕ))) (header : Option Header) (graph : Graph) → ((h : Header) → header ≡ Some h → IsHeader h) → parsed_below lines header ≡ Ok graph → IsParsed graph (length lines)
IsParsed-below lines header graph is e = grind (arith, nat_tests, both_nothing, eqb-true, length-filter_map, nodes-from)

IsParsed-lines : (lines : List (ℕ × List (List ℕ))) (graph : Graph) → parsed_lines lines ≡ Ok graph → IsParsed graph (length lines)
IsParsed-lines [] graph e = absurd (let no : ⊥ = cc in no)
IsParsed-lines (first ∷ rest) graph e = grind (arith, IsParsed-below rest (header_of first.1) graph (λ h f. IsHeader-line first.1 h f) e)

-- no more nodes than the text has bytes
pub IsParsed-from : (text : List ℕ) (graph : Graph) → parsed text ≡ Ok graph → IsParsed graph (length text)
IsParsed-from text graph e = grind (arith, nat_tests, IsParsed-lines (filled_lines text) graph e, length-filter, count_by-le-length, length-enumerate_from, length-map, length-all_lines)

-- a graph that passes is the one that was read
pub checked_nodes : (given graph : Graph) → checked given ≡ Ok graph → given.nodes ≡ graph.nodes
checked_nodes given graph e = grind (arith, nat_tests)
