use Rattle.std.proofs.Common.{arith}
use Rattle.probe_report.proofs.ModelsWithBit.{with-true, with-false, with-open, leaf-open, loose-again}
use Rattle.probe_report.proofs.asking.least_where.Goals as goal

pub returns-in-True-clause-least : goal.returns-in-True-clause-least
returns-in-True-clause-least g c = grind (arith, with-true)

pub returns-in-False-clause-least : goal.returns-in-False-clause-least
returns-in-False-clause-least g c = grind (arith, with-false)

pub returns-in-Open-clause-least : goal.returns-in-Open-clause-least
returns-in-Open-clause-least g c = grind (arith, with-open)

pub returns-in-Open-clause-evidence : goal.returns-in-Open-clause-evidence
returns-in-Open-clause-evidence g c = grind (arith, loose-again, leaf-open)
