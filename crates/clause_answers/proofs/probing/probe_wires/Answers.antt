use Rattle.std.proofs.Common.{◌≡◌, ◌+◌, length, [], None, true, false, arith, rules}
use Rattle.clause_answers.specs.Questions.{least_under}
use Rattle.clause_answers.specs.inner.Asking.{IsMinimum}
use Rattle.clause_answers.proofs.Kept.{least-is}
use Rattle.clause_answers.proofs.Probes.{none-right}
use Rattle.clause_answers.proofs.probing.probe_wires.Goals as goal

pub returns-in_default-clause-some : goal.returns-in_default-clause-some
returns-in_default-clause-some c =
    let r : c.minimum.result ≡ least_under c.args.oracle.now.question = least-is c.args.oracle.now.question c.minimum.new.self.bits c.minimum.result c.costs-parts.ensures.parts c.minimum.ensures.minimum in
    grind (arith, r, c.in_default.is)

pub returns-clause-some : goal.returns-clause-some
returns-clause-some c =
    let r : c.minimum.result ≡ least_under c.args.oracle.now.question = least-is c.args.oracle.now.question c.minimum.new.self.bits c.minimum.result c.costs-parts.ensures.parts c.minimum.ensures.minimum in
    grind (arith, r, c.in-Some.is)

pub returns-in_default-clause-zeros : goal.returns-in_default-clause-zeros
returns-in_default-clause-zeros c = λ wire lt.
    let q = c.args.oracle.now.question in
    let none : IsMinimum q [] c.minimum.new.self.bits None = grind (arith, c.minimum.ensures.minimum, c.in_default.is) in
    none-right q c.minimum.new.self.bits c.costs-parts.ensures.parts none c.fill.new.self (length c.args.zeros.now) (length q.costs + wire) wire false (c.fill.ensures.after (search rules)) lt

pub returns-in_default-clause-ones : goal.returns-in_default-clause-ones
returns-in_default-clause-ones c = λ wire lt.
    let q = c.args.oracle.now.question in
    let none : IsMinimum q [] c.minimum.new.self.bits None = grind (arith, c.minimum.ensures.minimum, c.in_default.is) in
    none-right q c.minimum.new.self.bits c.costs-parts.ensures.parts none c.fill-2.new.self (length c.args.ones.now) (length q.costs + wire) wire true (c.fill-2.ensures.after (search rules)) (omega (arith, lt, c.requires.ones))
