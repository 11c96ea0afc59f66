use Rattle.std.proofs.Common.{◌≤◌, length, arith}
use Rattle.clause_answers.proofs.Prefix.{within-first, alike-first, first-alike}
use Rattle.clause_answers.proofs.finding.find.Goals as goal

pub ask-requires-clause-within : goal.ask-requires-clause-within
ask-requires-clause-within c = within-first c.args.literals.now c.args.n c.args.oracle.now.question.cnf.vars (omega arith) (omega arith) c.requires.ordered

pub returns-clause-alike : goal.returns-clause-alike
returns-clause-alike c e = alike-first c.args.literals.now c.args.n c.ask.new.self.bits (omega arith) c.requires.ordered (c.ask.ensures.found e).true_

pub returns-clause-none : goal.returns-clause-none
returns-clause-none c e b meets alike =
    let no = c.ask.ensures.none e b meets.fits meets.low_is meets.high_is in
    grind (arith, first-alike)
