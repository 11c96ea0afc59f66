use Rattle.std.proofs.Common.{arith}
use Rattle.state_rules.proofs.Bits.{same_bit-equal}
use Rattle.clause_answers.proofs.Prefix.{one-true}
use Rattle.clause_answers.proofs.finding.find_part.Goals as goal

pub returns-clause-has : goal.returns-clause-has
returns-clause-has c e =
    let found = (c.ask.ensures.found e).true_ in
    let is = one-true _ c.args.part c.args.bit c.ask.new.self.bits c.literal_of.ensures.holds in
    grind (arith, same_bit-equal)

pub returns-clause-none : goal.returns-clause-none
returns-clause-none c e b meets =
    let none = c.ask.ensures.none e b meets.fits meets.low_is meets.high_is in
    let is = one-true _ c.args.part c.args.bit b c.literal_of.ensures.holds in
    grind arith
