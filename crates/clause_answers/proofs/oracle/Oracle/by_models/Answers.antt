use Rattle.clause_answers.proofs.Answered.{from-minimum}
use Rattle.clause_answers.proofs.oracle.Oracle.by_models.Goals as goal

pub returns-clause-minimum : goal.returns-clause-minimum
returns-clause-minimum c = from-minimum c.args.self.now.question c.args.literals.now c.least_from.new.self.bits c.least_from.result c.costs-parts.ensures.total c.least_from.ensures.least
