use Rattle.std.proofs.Common.{◌≡◌, ℕ, ◌+◌, List, [], length, Ok, Some, ap, sym, subst, ◌∙◌, arith}
use Rattle.std.proofs.lemmas.Result.{err_from_is_err_and}
use Rattle.text_rules.specs.Expected.{IsExpectedFault}
use Rattle.text_rules.specs.TextLines.{all_lines}
use Rattle.text_rules.proofs.LineLemmas.{length-all_lines}
use Rattle.state_rules.specs.Graphs.{Node, Graph}
use Rattle.nnf_text.specs.GraphTexts.{parsed, parsed_below, parsed_lines, checked_if}
use Rattle.nnf_text.specs.Refusals.{told}
use Rattle.nnf_text.specs.inner.Reading.{said_by, filled_from, nodes_behind, if_counted}
use Rattle.nnf_text.proofs.LineSteps.{read-line, read-counts, parsed-is}
use Rattle.nnf_text.proofs.ReadTexts.{IsParsed-from, checked_nodes}
use Rattle.nnf_text.proofs.reading.read_nnf.Goals as goal
use Rattle.nnf_text.proofs.reading.read_nnf.Goals.{After-nodes_in}

pub first_header-requires : goal.first_header-requires
first_header-requires c = omega (arith, length-all_lines c.args.text.now, ap (λ t. length (all_lines t)) c.new-lines.ensures, c.requires)

abbrev lines : After-nodes_in → List (ℕ × List (List ℕ))
lines c = filled_from (c.in-Some.above + 1) (all_lines c.first_header.new.lines)

-- the text is parsed from the line below its header
below : (c : After-nodes_in) → parsed c.args.text.now ≡ parsed_below (lines c) (Some (said_by c.in-Some.header))
below c = ap (λ t. parsed_lines (filled_from 1 (all_lines t))) (sym c.new-lines.ensures) ∙ c.in-Some.ensures.header

read : (c : After-nodes_in) (nodes : List Node) → let graph : Graph = record { nodes = nodes; vars = c.in-Some.header.vars } in nodes_behind graph.vars [] (lines c) ≡ Ok graph → if_counted (said_by c.in-Some.header) nodes ≡ Ok graph → parsed c.args.text.now ≡ Ok graph
read c = parsed-is c.args.text.now (said_by c.in-Some.header) (lines c) (below c)

pub returns-in_err-nodes-clause-read : goal.returns-in_err-nodes-clause-read
returns-in_err-nodes-clause-read c =
    let d = (goal.at.returns-in_err-nodes-clause-read c).After-nodes_in in
    let p = err_from_is_err_and c.from_residual.result c.from_residual.ensures.1 in
    rw (p.1, p.2) (read-line c.args.text.now (said_by c.in-Some.header) (lines d) (below d) (told c.in_err-nodes.field-0.0) c.in_err-nodes.ensures)

pub returns-in_err-check_counts-clause-read : goal.returns-in_err-check_counts-clause-read
returns-in_err-check_counts-clause-read c =
    let d = (goal.at.returns-in_err-check_counts-clause-read c).After-nodes_in in
    let p = err_from_is_err_and c.from_residual-in_err-check_counts.result c.from_residual-in_err-check_counts.ensures.1 in
    rw (p.1, p.2) (read-counts c.args.text.now (said_by c.in-Some.header) (lines d) (below d) c.in_ok-nodes.nodes c.in_ok-nodes.ensures (told c.in_err-check_counts.field-0.0) c.in_err-check_counts.ensures)

pub graph_of-requires : goal.graph_of-requires
graph_of-requires c =
    let p = IsParsed-from c.args.text.now _ (read (goal.at.graph_of-requires c).After-nodes_in c.in_ok-nodes.nodes c.in_ok-nodes.ensures c.in_ok-check_counts.ensures) in
    record { some = p.some; few = omega (arith, p.few, c.requires); fit = p.fit }

pub returns-in_err-graph-clause-read : goal.returns-in_err-graph-clause-read
returns-in_err-graph-clause-read c =
    let is = read (goal.at.returns-in_err-graph-clause-read c).After-nodes_in c.in_ok-nodes.nodes c.in_ok-nodes.ensures c.in_ok-check_counts.ensures in
    let p = err_from_is_err_and c.from_residual-in_err-graph.result c.from_residual-in_err-graph.ensures.1 in
    rw (p.1, p.2) (subst (IsExpectedFault (told c.in_err-graph.field-0.0)) (sym (ap checked_if is)) c.in_err-graph.ensures)

pub returns-clause-read : goal.returns-clause-read
returns-clause-read c = ap checked_if (read (goal.at.returns-clause-read c).After-nodes_in c.in_ok-nodes.nodes c.in_ok-nodes.ensures c.in_ok-check_counts.ensures) ∙ c.in_ok-graph.ensures

pub returns-clause-few : goal.returns-clause-few
returns-clause-few c =
    let p = IsParsed-from c.args.text.now _ (read (goal.at.returns-clause-few c).After-nodes_in c.in_ok-nodes.nodes c.in_ok-nodes.ensures c.in_ok-check_counts.ensures) in
    omega (arith, p.few, ap length (checked_nodes (record { nodes = c.in_ok-nodes.nodes; vars = c.in-Some.header.vars }) c.in_ok-graph.graph c.in_ok-graph.ensures))
