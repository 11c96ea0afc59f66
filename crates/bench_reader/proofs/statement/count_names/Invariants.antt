use Rattle.std.proofs.Common.{◌≡◌, ◌+◌, length}
use Rattle.std.specs.List.{filter, list_all}
use Rattle.text_rules.specs.Tokens.{tokens_left}
use Rattle.text_rules.specs.Names.{is_short_name}
use Rattle.bench_reader.specs.Statements.{has_no_mark}
use Rattle.bench_reader.specs.inner.Lines.{input_names}
use Rattle.bench_reader.proofs.statement.count_names.Given as goal

abbrev pub invariant-loop-token : goal.invariant-loop-token
invariant-loop-token l =
    let names = input_names l.fn.inputs in
    let left = filter has_no_mark (tokens_left l.token-iterator) in
    record {
      can_next : goal.iterator-loop-token.can_next l.token-iterator;
      is_finite : goal.iterator-loop-token.is_finite l.token-iterator;
      signals : list_all is_short_name names ≡ list_all is_short_name left;
      counted : length names ≡ l.count + length left;
    }
