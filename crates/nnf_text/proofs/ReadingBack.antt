-- The text of a graph is read back as that graph.
use Rattle.std.proofs.Common.{◌≡◌, ℕ, ◌+◌, ◌-◌, ◌*◌, ◌^◌, ◌<◌, ◌≤◌, Bool, true, false, not, ◌==◌, List, [], ◌∷◌, ◌++◌, map, length, Some, None, Ok, codes, refl, ap, ◌∙◌, arith}
use Rattle.std.proofs.lemmas.Bool.Decides.{nat_tests}
use Rattle.std.specs.Prelude.{decimal, nat_lt}
use Rattle.std.specs.List.{list_all, filter, filter_map, enumerate_from}
use Rattle.std.proofs.lemmas.Bool.{and_parts, and_from, cond-true, cond-false, leb-true, ltb-true, eqb-true, eq-eqb, le-leb, not_from_false, ne_eqb}
use Rattle.std.proofs.lemmas.List.{nil_from_length}
use Rattle.std.proofs.lemmas.List.Sums.{sum_by-cons}
use Rattle.std.proofs.lemmas.Fmt.{decimal_nonempty}
use Rattle.text_rules.specs.Numbers.{is_digit}
use Rattle.text_rules.specs.Tokens.{is_neat}
use Rattle.text_rules.specs.inner.WordBytes.{is_word_byte}
use Rattle.text_rules.proofs.PartLemmas.{passes_too}
use Rattle.text_rules.proofs.NumberLemmas.{decimal_digits, number_in-decimal}
use Rattle.text_rules.proofs.SpacedLines.{is_line_word, is_word_line, words_of_lines, lines_are_neat}
use Rattle.state_rules.specs.declared.nodes.NodeKind.{NodeKind}
use Rattle.state_rules.specs.declared.nodes.NodeKind.TheVariants.{Literal, And}
use Rattle.state_rules.specs.Graphs.{Node, Graph, kind_fits, nodes_fit, IsGraph, edges}
use Rattle.state_rules.specs.declared.nodes.TheConstants.{CHILD_LIMIT}
use Rattle.state_rules.proofs.NodeValues.{are_below}
use Rattle.state_rules.proofs.NodesFit.{Fits}
use Rattle.nnf_text.specs.GraphTexts.{small_number, great_number, numbers, literal_of, literal_with, counted, node_of, node_fault, line_fault, node_at_line, has_words, filled_lines, header_of, differs, Refusal, Parsed, read_unless, parsed}
use Rattle.nnf_text.specs.WrittenGraphs.{literal_word, child_words, kind_words, node_words, header_words, graph_text}

-- ---- numbers

pub small_number-decimal : (n : ℕ) → n < 2 ^ 32 → small_number (decimal n) ≡ Some n
small_number-decimal n h = number_in-decimal 10 0 (2 ^ 32 - 1) n (omega arith) (omega arith) (omega arith) (omega arith) (omega arith)

pub great_number-decimal : (n : ℕ) → n < 2 ^ 64 → great_number (decimal n) ≡ Some n
great_number-decimal n h = number_in-decimal 20 0 (2 ^ 64 - 1) n (omega arith) (omega arith) (omega arith) (omega arith) (omega arith)

-- ---- words

digit_in_word : (b : ℕ) → is_digit b ≡ true → is_word_byte false b ≡ true
digit_in_word b digit = grind (arith, nat_tests, and_parts, leb-true)

digit_in_line : (b : ℕ) → is_digit b ≡ true → not (b == 10) ≡ true
digit_in_line b digit = grind (arith, nat_tests, and_parts, leb-true, not_from_false, ne_eqb)

digits_word : (w : List ℕ) → 0 < length w → list_all is_digit w ≡ true → is_line_word w ≡ true
digits_word w some all = grind (arith, nat_tests, and_from, passes_too, digit_in_word, digit_in_line)

pub decimal-is_line_word : (n : ℕ) → n < 2 ^ 64 → is_line_word (decimal n) ≡ true
decimal-is_line_word n h = digits_word (decimal n) (decimal_nonempty n h) (decimal_digits n h)

-- the same after a minus sign
minus_word : (w : List ℕ) → is_line_word w ≡ true → is_line_word (45 ∷ w) ≡ true
minus_word w word = grind (arith, nat_tests, and_parts, and_from)

-- ---- the line of a node

-- numbers that fit
abbrev pub are_small : List ℕ → Bool
are_small ns = list_all (λ n. nat_lt n (2 ^ 32)) ns

numbers-decimal : (ns : List ℕ) → are_small ns ≡ true → numbers (map decimal ns) ≡ Some ns
numbers-decimal [] all = refl
numbers-decimal (n ∷ ns) all = grind (arith, nat_tests, and_parts, small_number-decimal, ltb-true, numbers-decimal ns)

counted-kids : (kind : NodeKind) (kids : List ℕ) → length kids < 2 ^ 32 → are_small kids ≡ true → counted kind (numbers (child_words kids)) ≡ Some (record { what = kind; kids = kids })
counted-kids kind kids few small = grind (arith, nat_tests, small_number-decimal, numbers-decimal, cond-true, eq-eqb)

node_of-and : (kids : List ℕ) → node_of (codes "A" ∷ child_words kids) ≡ counted And (numbers (child_words kids))
node_of-and kids = grind (arith, nat_tests)

literal_of-digits : (w : List ℕ) → 0 < length w → list_all is_digit w ≡ true → literal_of w ≡ literal_with true (small_number w)
literal_of-digits w some all = grind (arith, nat_tests, and_parts, leb-true, cond-false, ne_eqb)

literal_of-word : (positive : Bool) (var : ℕ) → var < 2 ^ 32 → literal_of (literal_word positive var) ≡ Some (record { what = Literal positive var; kids = [] })
literal_of-word positive var small = grind (arith, nat_tests, literal_of-digits, decimal_nonempty, decimal_digits, small_number-decimal)

small-from : (own : ℕ) (kids : List ℕ) → own < 2 ^ 32 → are_below own kids ≡ true → are_small kids ≡ true
small-from own kids few below = grind (arith, nat_tests, passes_too, ltb-true, le-leb)

few-kids : (vars : ℕ) (kind : NodeKind) (kids : List ℕ) → kind_fits vars kind kids ≡ true → length kids < CHILD_LIMIT
few-kids vars kind kids is = grind (arith, nat_tests, eqb-true, and_parts, ltb-true)

module _ (vars own : ℕ) (few : own < 2 ^ 32) (vars_fit : vars < 2 ^ 32) where
  kind-read : (kind : NodeKind) (kids : List ℕ) → are_below own kids ≡ true → kind_fits vars kind kids ≡ true → node_of (kind_words kind kids) ≡ Some (record { what = kind; kids = kids })
  kind-read kind kids below is = grind (arith, nat_tests, and_parts, leb-true, literal_of-word, nil_from_length, eqb-true, few-kids, node_of-and, counted-kids, small-from)

  node-read : (node : Node) → Fits vars own node → node_of (node_words node) ≡ Some node
  node-read node is = kind-read node.what node.kids is.below is.kind

  node-right : (node : Node) → Fits vars own node → node_fault vars own (node_of (node_words node)) ≡ None
  node-right node is = grind (arith, nat_tests, cond-false, cond-true, and_parts, node-read node is)

-- ---- all nodes

module _ (vars : ℕ) (vars_fit : vars < 2 ^ 32) where
  nodes-read : (own line : ℕ) (nodes : List Node) → own + length nodes ≤ 2 ^ 32 → nodes_fit vars own nodes ≡ true → filter_map node_at_line (enumerate_from line (map node_words nodes)) ≡ nodes
  nodes-read own line [] few are = refl
  nodes-read own line (node ∷ nodes) few are = grind (arith, nat_tests, and_parts, node-read, nodes-read (own + 1) (line + 1) nodes)

  nodes-right : (own line : ℕ) (nodes : List Node) → own + length nodes ≤ 2 ^ 32 → nodes_fit vars own nodes ≡ true
      → filter_map (line_fault vars) (enumerate_from own (enumerate_from line (map node_words nodes))) ≡ []
  nodes-right own line [] few are = refl
  nodes-right own line (node ∷ nodes) few are = grind (arith, nat_tests, and_parts, node-right, nodes-right (own + 1) (line + 1) nodes)

-- ---- the words of each line

numbers-are_words : (ns : List ℕ) → are_small ns ≡ true → list_all is_line_word (map decimal ns) ≡ true
numbers-are_words [] all = refl
numbers-are_words (n ∷ ns) all = grind (arith, nat_tests, and_parts, ltb-true, and_from, decimal-is_line_word, numbers-are_words ns)

module _ (vars own : ℕ) (few : own < 2 ^ 32) (vars_fit : vars < 2 ^ 32) where
  kind-is_line : (kind : NodeKind) (kids : List ℕ) → are_below own kids ≡ true → kind_fits vars kind kids ≡ true → is_word_line (kind_words kind kids) ≡ true
  kind-is_line kind kids below is = grind (arith, nat_tests, and_parts, leb-true, and_from, minus_word, few-kids, decimal-is_line_word, numbers-are_words, small-from)

lines-are : (vars own : ℕ) (nodes : List Node) → own + length nodes ≤ 2 ^ 32 → vars < 2 ^ 32 → nodes_fit vars own nodes ≡ true → list_all is_word_line (map node_words nodes) ≡ true
lines-are vars own [] few vars_fit are = refl
lines-are vars own (node ∷ nodes) few vars_fit are = grind (arith, nat_tests, and_parts, and_from, kind-is_line, lines-are vars (own + 1) nodes)

-- ---- edges

pub edges-le : (vars own : ℕ) (nodes : List Node) → nodes_fit vars own nodes ≡ true → edges nodes ≤ length nodes * CHILD_LIMIT
edges-le vars own [] are = omega arith
edges-le vars own (node ∷ nodes) are = grind (arith, nat_tests, and_parts, few-kids vars node.what node.kids, edges-le vars (own + 1) nodes, sum_by-cons (λ (n : Node). length n.kids) node nodes)

-- ---- the whole text

header-is_line : (vars : ℕ) (nodes : List Node) → length nodes < 2 ^ 32 → edges nodes < 2 ^ 64 → vars < 2 ^ 32 → is_word_line (header_words (record { nodes = nodes; vars = vars })) ≡ true
header-is_line vars nodes few small vars_fit = grind (arith, nat_tests, and_from, decimal-is_line_word)

header-read : (vars : ℕ) (nodes : List Node) → 0 < length nodes → length nodes < 2 ^ 32 → edges nodes < 2 ^ 64 → vars < 2 ^ 32
    → header_of (header_words (record { nodes = nodes; vars = vars })) ≡ Some (record { nodes = length nodes; edges = edges nodes; vars = vars })
header-read vars nodes some few small vars_fit = grind (arith, nat_tests, small_number-decimal, great_number-decimal)

filled-all : (n : ℕ) (lines : List (List (List ℕ))) → list_all is_word_line lines ≡ true → filter has_words (enumerate_from n lines) ≡ enumerate_from n lines
filled-all n [] all = refl
filled-all n (ws ∷ lines) all = grind (arith, nat_tests, and_parts, cond-true, filled-all (n + 1) lines)

-- nodes over `vars` variables of which a text can be written
pub record IsList (vars : ℕ) (nodes : List Node) : Type 0 where
  pub some : 0 < length nodes
  pub few : length nodes < 2 ^ 32
  pub vars_fit : vars < 2 ^ 32
  pub fit : nodes_fit vars 0 nodes ≡ true

module _ (vars : ℕ) (nodes : List Node) (is : IsList vars nodes) where
  few-edges : edges nodes < 2 ^ 64
  few-edges = omega (arith, edges-le vars 0 nodes is.fit, is.few)

  all_lines-are : list_all is_word_line (header_words (record { nodes = nodes; vars = vars }) ∷ map node_words nodes) ≡ true
  all_lines-are = and_from _ _ (header-is_line vars nodes is.few few-edges is.vars_fit) (lines-are vars 0 nodes (omega (arith, is.few)) is.vars_fit is.fit)

  pub graph_text-is_neat : is_neat (graph_text (record { nodes = nodes; vars = vars })) ≡ true
  graph_text-is_neat = lines_are_neat (header_words (record { nodes = nodes; vars = vars }) ∷ map node_words nodes) all_lines-are

  filled : filled_lines (graph_text (record { nodes = nodes; vars = vars })) ≡ enumerate_from 1 (header_words (record { nodes = nodes; vars = vars }) ∷ map node_words nodes)
  filled = ap (λ ls. filter has_words (enumerate_from 1 ls)) (words_of_lines (header_words (record { nodes = nodes; vars = vars }) ∷ map node_words nodes) all_lines-are)
      ∙ filled-all 1 (header_words (record { nodes = nodes; vars = vars }) ∷ map node_words nodes) all_lines-are

  -- the lines below the header
  below : List (ℕ × List (List ℕ))
  below = enumerate_from 2 (map node_words nodes)

  unfoldable read_below : List Node → List Refusal → Parsed
  read_below ns faults = read_unless (record { nodes = ns; vars = vars }) (faults ++ differs (length nodes) (length ns) ++ differs (edges nodes) (edges ns))

  pub graph_text-read : parsed (graph_text (record { nodes = nodes; vars = vars })) ≡ Ok (record { nodes = nodes; vars = vars })
  unfolding read_below
  graph_text-read = grind (arith, nat_tests, filled, header-read, few-edges, nodes-read, nodes-right)

-- ---- a graph, over more variables than it has

nodes-wider : (vars more own : ℕ) (nodes : List Node) → vars ≤ more → nodes_fit vars own nodes ≡ true → nodes_fit more own nodes ≡ true
nodes-wider vars more own [] le all = refl
nodes-wider vars more own (node ∷ nodes) le all = grind (arith, nat_tests, and_parts, and_from, leb-true, le-leb, nodes-wider vars more (own + 1) nodes le)

pub IsList-from : (graph : Graph) (vars : ℕ) → IsGraph graph → graph.vars ≤ vars → vars < 2 ^ 32 → IsList vars graph.nodes
IsList-from graph vars is le small = grind (arith, nat_tests, nodes-wider)
