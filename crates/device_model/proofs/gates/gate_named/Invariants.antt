use Rattle.std.proofs.Common.{◌≡◌, drop}
use Rattle.text_rules.specs.Names.{same_name}
use Rattle.device_model.specs.Gates.{gate_named}
use Rattle.device_model.proofs.NamedGates.{first_named}
use Rattle.device_model.proofs.gates.gate_named.Given as goal

abbrev pub invariant-loop-gate : goal.invariant-loop-gate
invariant-loop-gate l = gate_named l.word ≡ first_named (same_name l.word) (drop l.gate-index l.gate-items)
