use Rattle.std.proofs.Common.{◌≡◌, drop}
use Rattle.text_rules.specs.Names.{same_name}
use Rattle.device_model.specs.Gates.{gate_named}
use Rattle.device_model.proofs.NamedGates.{first_named}
use Rattle.bench_reader.specs.Statements.{capitals}
use Rattle.bench_reader.proofs.kinds.gate_spelled.Given as goal

abbrev pub invariant-loop-gate : goal.invariant-loop-gate
invariant-loop-gate l = gate_named (capitals l.word) ≡ first_named (same_name (capitals l.word)) (drop l.gate-index l.gate-items)
