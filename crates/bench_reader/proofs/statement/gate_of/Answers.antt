use Rattle.std.proofs.Common.{◌∙◌, sym}
use Rattle.text_rules.specs.Tokens.{tokens_left}
use Rattle.text_rules.proofs.NameLemmas.{equal_if_same}
use Rattle.bench_reader.proofs.FirstBrackets.{tokens_of_inputs}
use Rattle.bench_reader.proofs.ParsedTokens.{statement_of_gate}
use Rattle.bench_reader.proofs.statement.gate_of.Goals as goal

pub returns-then-is_list : goal.returns-then-is_list
returns-then-is_list c =
    let bracket = equal_if_same c.in_ok-next.field-0.now c.as_slice.result.now (sym c.eq.ensures ∙ c.if-eq.true) ∙ c.as_slice.ensures in
    let output_named = sym c.has_no_mark.ensures ∙ c.if-has_no_mark.true in
    let kind_word = sym c.has_no_mark-then-has_no_mark.ensures ∙ c.if-has_no_mark-2.true in
    let left = tokens_left c.next-2.new.self in
    let inputs = tokens_of_inputs c.args.line.now c.args.output.now c.in_ok-kind.kind.now _ _ _ left c.requires c.in_ok-kind.ensures.steps c.in_ok-next.ensures.steps bracket output_named kind_word in
    let made = statement_of_gate c.args.output.now c.in_ok-kind.kind.now _ _ _ _ left c.requires c.in_ok-kind.ensures.steps c.in_ok-next.ensures.steps bracket output_named kind_word (sym c.is_list.ensures ∙ c.if-is_list.true) in
    rw (c.kind_named.ensures, c.behind_bracket.ensures, inputs) made
