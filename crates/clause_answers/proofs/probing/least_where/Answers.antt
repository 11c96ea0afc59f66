use Rattle.std.proofs.Common.{arith}
use Rattle.clause_answers.proofs.Probes.{with-is}
use Rattle.clause_answers.proofs.probing.least_where.Goals as goal

pub returns-clause-least : goal.returns-clause-least
returns-clause-least c = with-is c.args.oracle.now.question c.args.place c.args.bit c.literal_of.result c.minimum.new.self.bits c.minimum.result c.costs-parts.ensures.parts c.literal_of.ensures.holds (grind (arith, c.minimum.ensures.minimum))
