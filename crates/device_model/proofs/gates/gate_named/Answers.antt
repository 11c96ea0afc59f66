use Rattle.std.proofs.Common.{arith}
use Rattle.text_rules.specs.Names.{same_name}
use Rattle.device_model.specs.Gates.{gates}
use Rattle.device_model.proofs.NamedGates.{first_named-later}
use Rattle.device_model.proofs.gates.gate_named.Goals as goal

pub loop-gate-preserved : goal.loop-gate-preserved
loop-gate-preserved c = grind (arith, first_named-later (same_name c.args.word.now) gates c.loop-gate.gate-index)
