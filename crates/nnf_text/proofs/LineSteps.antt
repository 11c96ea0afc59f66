-- The nodes of a text, line by line.
use Rattle.std.proofs.Common.{◌≡◌, ℕ, ◌+◌, true, false, List, [], ◌∷◌, ◌++◌, length, Option, Some, None, Ok, Err, ap, ◌∙◌, arith, append_assoc, append-nil}
use Rattle.std.proofs.lemmas.Bool.Decides.{nat_tests}
use Rattle.std.specs.Prelude.{nat_lt}
use Rattle.std.specs.List.{list_all, filter_map, cons_option, enumerate_from}
use Rattle.std.proofs.lemmas.List.{length-append}
use Rattle.text_rules.specs.Expected.{IsExpectedFault}
use Rattle.state_rules.specs.Graphs.{Node, Graph, edges}
use Rattle.nnf_text.specs.GraphTexts.{Header, node_of, variable_fits, node_at_line, line_fault, fault_at, differs, LineFault, WrongLine, WrongChild, Refusal, AtLine, Parsed, read_unless, parsed_below, parsed, checked_if, read_graph}
use Rattle.nnf_text.specs.inner.Reading.{filled_from, nodes_behind, if_counted}
use Rattle.nnf_text.proofs.Options.{none≢some}

-- ---- one line

module _ (vars line : ℕ) (done : List Node) (ws : List (List ℕ)) (node : Node) (is : node_of ws ≡ Some node) where
  pub line-child : list_all (λ child. nat_lt child (length done)) node.kids ≡ false → nodes_behind vars done ((line, ws) ∷ []) ≡ Err (AtLine line WrongChild)
  line-child late = grind (arith, nat_tests, is)

  pub line-right : list_all (λ child. nat_lt child (length done)) node.kids ≡ true → variable_fits vars node.what ≡ true
      → nodes_behind vars done ((line, ws) ∷ []) ≡ Ok (record { nodes = done ++ node ∷ []; vars = vars })
  line-right early fits = grind (arith, nat_tests, is)

-- ---- the lines after it

module _ (vars number : ℕ) (done : List Node) (lines : List (List ℕ)) where
  -- the lines that follow
  abbrev rest : List (ℕ × List (List ℕ))
  rest = filled_from (number + 1) lines

  abbrev graph_of : List Node → Graph
  graph_of nodes = record { nodes = nodes; vars = vars }

  -- the result of all lines, from the node of the first and its fault
  abbrev whole_by : Option Node → Option LineFault → Parsed
  whole_by o fault = read_unless (record { nodes = done ++ cons_option o (filter_map node_at_line rest); vars = vars }) (cons_option (fault_at number fault) (filter_map (line_fault vars) (enumerate_from (length done + 1) rest)))

  abbrev first_by : Option Node → Option LineFault → Parsed
  first_by o fault = read_unless (record { nodes = done ++ cons_option o []; vars = vars }) (cons_option (fault_at number fault) [])

  right_first : (more : List Node) (o : Option Node) (fault : Option LineFault) → (o ≡ None → fault ≡ Some WrongLine) → first_by o fault ≡ Ok (record { nodes = more; vars = vars }) → whole_by o fault ≡ nodes_behind vars more rest
  right_first more o fault form e = grind (arith, nat_tests, none≢some, length-append, append_assoc)

  -- a line that is read adds its node
  pub line-more : (line : List ℕ) (more : List Node) → nodes_behind vars done (filled_from number (line ∷ [])) ≡ Ok (record { nodes = more; vars = vars })
      → nodes_behind vars done (filled_from number (line ∷ lines)) ≡ nodes_behind vars more rest
  line-more line more e = grind (arith, nat_tests, append-nil, right_first)

  -- a refusal of the first line is that of all
  pub line-refused : (line : List ℕ) (r : Refusal) → nodes_behind vars done (filled_from number (line ∷ [])) ≡ Err r → nodes_behind vars done (filled_from number (line ∷ lines)) ≡ Err r
  line-refused line r e = grind (arith, nat_tests)

-- ---- refusals

-- a fault expected of `a` is expected of `b`, if `b` has its refusals
pub refused-too : (fault : Option Refusal) (a b : Parsed) → ((r : Refusal) → a ≡ Err r → b ≡ Err r) → IsExpectedFault fault a → IsExpectedFault fault b
refused-too fault a b more h = grind (arith, nat_tests)

-- ---- a whole text

module _ (text : List ℕ) (header : Header) (lines : List (ℕ × List (List ℕ))) (below : parsed text ≡ parsed_below lines (Some header)) where
  abbrev with_nodes : List Node → Graph
  with_nodes nodes = record { nodes = nodes; vars = header.vars }

  abbrev all_nodes : List Node
  all_nodes = filter_map node_at_line lines

  abbrev all_faults : List Refusal
  all_faults = filter_map (line_fault header.vars) (enumerate_from 0 lines)

  abbrev counts : List Node → List Refusal
  counts nodes = differs header.nodes (length nodes) ++ differs header.edges (edges nodes)

  grouped : parsed text ≡ read_unless (with_nodes all_nodes) (all_faults ++ counts all_nodes)
  grouped = below ∙ ap (read_unless (with_nodes all_nodes)) (append_assoc all_faults (differs header.nodes (length all_nodes)) (differs header.edges (edges all_nodes)))

  -- the refusal of a line is that of the text
  pub read-line : (fault : Option Refusal) → IsExpectedFault fault (nodes_behind header.vars [] lines) → IsExpectedFault fault (read_graph text)
  read-line fault h = refused-too fault (nodes_behind header.vars [] lines) (read_graph text) (λ r f. grind (arith, nat_tests, grouped)) h

  module _ (nodes : List Node) (read : nodes_behind header.vars [] lines ≡ Ok (with_nodes nodes)) where
    parsed-counted : parsed text ≡ if_counted header nodes
    parsed-counted = grind (arith, nat_tests, grouped)

    -- and so is that of a count
    pub read-counts : (fault : Option Refusal) → IsExpectedFault fault (if_counted header nodes) → IsExpectedFault fault (read_graph text)
    read-counts fault h = refused-too fault (if_counted header nodes) (read_graph text) (λ r f. ap checked_if (parsed-counted ∙ f)) h

    pub parsed-is : if_counted header nodes ≡ Ok (with_nodes nodes) → parsed text ≡ Ok (with_nodes nodes)
    parsed-is right = parsed-counted ∙ right
