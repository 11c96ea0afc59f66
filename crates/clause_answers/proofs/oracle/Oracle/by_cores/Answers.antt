use Rattle.std.proofs.Common.{[], refl, ◌∙◌, arith}
use Rattle.std.proofs.lemmas.Grind.{common_steps}
use Rattle.clause_answers.proofs.Settled.{weighs-grown, first-many}
use Rattle.clause_answers.proofs.CarriedBits.{ready}
use Rattle.clause_answers.proofs.Answered.{none-minimum, least-minimum, is-oracle}
use Rattle.clause_answers.proofs.oracle.Oracle.by_cores.Goals as goal

pub invariant_of-self-in-Model : goal.invariant_of-self-in-Model
invariant_of-self-in-Model c =
    let o = c.self.inside in
    let inv = c.self.invariant in
    let f = c.in-Model.ensures in
    let new = c.find-found.new.search.rules in
    let base = weighs-grown o.search.rules new o.costs.items o.evidence [] o.weights inv.weighs f.grown in
    is-oracle o.search.rules new new o.costs.items o.evidence o.weights c.keep.new.weights o.bits.items c.take_bits.new.bits.items _ _ inv refl f.grown.cnf
    (f.grown.first (first-many o.search.rules.members o.costs.items inv.first) ∙ inv.first) (c.keep.ensures new o.costs.items o.evidence base (f.weighs refl)) (grind (arith, common_steps)) f.room

pub returns-in-Nothing-clause-minimum : goal.returns-in-Nothing-clause-minimum
returns-in-Nothing-clause-minimum c = λ answer e.
    let o = c.self.inside in
    let d = c.definitions.ensures in
    let f = c.in-Nothing.ensures in
    let r = ready c.args.self.now o.search.rules c.find-found.new.search.rules o.costs.items o.evidence c.args.literals.now o.low o.high _ _ _ c.self.invariant c.self.view_is f.grown.cnf d.valid d.even d.ordered c.requires.within in
    none-minimum _ _ _ _ _ _ _ r o.bits.items answer (cc) (f.none refl)

pub returns-in-Model-clause-minimum : goal.returns-in-Model-clause-minimum
returns-in-Model-clause-minimum c = λ answer e.
    let o = c.self.inside in
    let d = c.definitions.ensures in
    let f = c.in-Model.ensures in
    let r = ready c.args.self.now o.search.rules c.find-found.new.search.rules o.costs.items o.evidence c.args.literals.now o.low o.high _ _ _ c.self.invariant c.self.view_is f.grown.cnf d.valid d.even d.ordered c.requires.within in
    least-minimum _ _ _ _ _ _ _ r c.find-found.new.weights c.find-found.new.search.model c.take_bits.new.bits.items answer (f.weighs refl) (f.reached refl) (f.cheap refl)
    (grind (arith, common_steps, c.take_bits.ensures, c.self.invariant.long, r.known, c.self.invariant.known)) (grind (arith, common_steps, c.bits_cost.ensures))
