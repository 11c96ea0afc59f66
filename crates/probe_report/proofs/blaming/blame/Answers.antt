use Rattle.std.proofs.Common.{◌-◌, sym, arith}
use Rattle.probe_report.proofs.Blames.{is-inconsistent, is-never}
use Rattle.probe_report.proofs.blaming.blame.Goals as goal

pub returns-in_default-clause-blame : goal.returns-in_default-clause-blame
returns-in_default-clause-blame g c = grind (arith, is-inconsistent c.args.graph.now c.args.evidence.now c.args.costs.now (c.args.part - 1))

pub returns-else-eq-clause-blame : goal.returns-else-eq-clause-blame
returns-else-eq-clause-blame g c = is-never c.args.graph.now c.args.evidence.now c.args.costs.now (c.args.part - 1) _ (omega arith) c.requires.parts (sym c.in-Some.ensures.least) (grind arith)
