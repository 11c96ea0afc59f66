use Rattle.std.proofs.Common.{◌≡◌}
use Rattle.std.specs.List.{filter, list_all}
use Rattle.std.specs.Map.{keys_of}
use Rattle.text_rules.specs.Names.{is_among}
use Rattle.text_rules.specs.Tokens.{tokens_left}
use Rattle.bench_reader.specs.Statements.{has_no_mark}
use Rattle.bench_reader.specs.inner.Lines.{input_names}
use Rattle.bench_reader.specs.inner.Steps.{signals_in}
use Rattle.bench_reader.proofs.signals.are_driven.Given as goal

abbrev pub invariant-loop-token : goal.invariant-loop-token
invariant-loop-token l =
    let driven = is_among (keys_of (signals_in l.signals)) in
    list_all driven (input_names l.fn.inputs) ≡ list_all driven (filter has_no_mark (tokens_left l.token-iterator))
