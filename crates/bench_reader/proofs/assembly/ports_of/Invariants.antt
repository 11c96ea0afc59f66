use Rattle.std.proofs.Common.{◌≡◌, ◌++◌, map}
use Rattle.std.specs.List.{filter}
use Rattle.std.specs.Map.{keys_of}
use Rattle.text_rules.specs.Tokens.{tokens_left}
use Rattle.device_model.specs.Building.{place_in}
use Rattle.bench_reader.specs.Statements.{has_no_mark}
use Rattle.bench_reader.specs.inner.Lines.{input_names}
use Rattle.bench_reader.specs.inner.Steps.{signals_in}
use Rattle.bench_reader.proofs.assembly.ports_of.Given as goal

abbrev pub invariant-loop-token : goal.invariant-loop-token
invariant-loop-token l =
    let place = place_in (keys_of (signals_in l.signals)) in
    map place (input_names l.fn.inputs) ≡ l.ports.items ++ map place (filter has_no_mark (tokens_left l.token-iterator))
