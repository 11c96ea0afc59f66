use Rattle.std.proofs.Common.{◌-◌, arith}
use Rattle.probe_report.proofs.Blames.{is-always, is-sometimes}
use Rattle.probe_report.proofs.blaming.blame_faulty.Goals as goal

pub returns-then-eq-clause-blame : goal.returns-then-eq-clause-blame
returns-then-eq-clause-blame g c = is-sometimes c.args.graph.now c.args.evidence.now c.args.costs.now (c.args.part - 1) _ (omega arith) c.requires.parts c.requires.least c.requires.faulty (grind arith)

pub returns-else-eq-clause-blame : goal.returns-else-eq-clause-blame
returns-else-eq-clause-blame g c = is-always c.args.graph.now c.args.evidence.now c.args.costs.now (c.args.part - 1) _ (omega arith) c.requires.parts c.requires.least (grind arith)
