use Rattle.std.proofs.Common.{rules}
use Rattle.clause_answers.proofs.Prefix.{signs-front, signs-here}
use Rattle.clause_answers.proofs.finding.put.Goals as goal

pub returns-clause-front : goal.returns-clause-front
returns-clause-front c i lt = signs-front c.args.literals.now c.args.place _ i lt

pub returns-clause-bit : goal.returns-clause-bit
returns-clause-bit c =
    let is = signs-here c.args.literals.now c.args.place c.literal_of.result c.args.bit c.requires.place c.literal_of.ensures.holds in
    search rules
