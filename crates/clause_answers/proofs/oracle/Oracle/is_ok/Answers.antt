use Rattle.std.proofs.Common.{◌<◌, [], length, get_or, refl, sym, subst, arith}
use Rattle.std.proofs.lemmas.Grind.{common_steps}
use Rattle.std.proofs.lemmas.Bool.Decides.{nat_tests}
use Rattle.clause_answers.specs.inner.Asking.{Asked}
use Rattle.clause_answers.proofs.CarriedBits.{ready}
use Rattle.clause_answers.proofs.Answered.{settled-ok}
use Rattle.clause_answers.proofs.oracle.Oracle.is_ok.Goals as goal

pub returns-then-self : goal.returns-then-self
returns-then-self c = λ e.
    let o = c.self.inside in
    let d = c.definitions.ensures in
    let r = ready c.args.self.now o.search.rules o.search.rules o.costs.items o.evidence [] o.low o.high _ _ _ c.self.invariant c.self.view_is refl d.valid d.even d.ordered refl in
    let some : 0 < get_or o.weights.parts.items c.args.part 0 = grind (arith, common_steps, nat_tests) in
    settled-ok _ _ _ _ _ _ _ r o.weights c.args.part c.self.invariant.weighs (omega (arith, c.if-self.true)) (subst (λ (s : Asked). c.args.part < length s.question.costs) (sym c.self.view_is) c.requires) some
