use Rattle.std.proofs.Common.{ap, sym}
use Rattle.std.specs.Prelude.{is_some}
use Rattle.engines.specs.declared.listed.Listed.TheVariants.{Diagnoses}
use Rattle.engines.specs.Answers.{diagnoses_of, next_of}
use Rattle.graph_engine.specs.Served.{about_of}
use Rattle.state_rules.proofs.Diagnoses.{no_diagnosis, has_diagnosis}
use Rattle.graph_engine.proofs.NextStates.{first_next}
use Rattle.graph_engine.proofs.engine.GraphEngine.first_step.Goals as goal

pub returns-in-Some-clause-next : goal.returns-in-Some-clause-next
returns-in-Some-clause-next g c =
    let about = about_of c.args.self.now in
    first_next about.system (diagnoses_of about) (has_diagnosis about.system.costs (about.system.consistent about.known) (ap is_some c.in-Some.ensures.least))

pub returns-in-None-clause-next : goal.returns-in-None-clause-next
returns-in-None-clause-next g c =
    let about = about_of c.args.self.now in
    sym (ap (λ ds. next_of about.system Diagnoses ds ds) (no_diagnosis about.system.costs (about.system.consistent about.known) (sym c.in-None.ensures.least)))
