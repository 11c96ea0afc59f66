use Rattle.std.proofs.Common.{refl, arith}
use Rattle.std.proofs.lemmas.Grind.{common_steps}
use Rattle.clause_search.specs.Searching.{all_vars}
use Rattle.clause_answers.proofs.KnownLiterals.{within-more}
use Rattle.clause_answers.proofs.CarriedBits.{ready}
use Rattle.clause_answers.proofs.Answered.{reached, none-weighted, found-weighted}
use Rattle.clause_answers.proofs.oracle.Oracle.ask_weighted.Goals as goal

pub meet-requires : goal.meet-requires
meet-requires c =
    let o = c.self.inside in
    let d = c.definitions.ensures in
    let r = ready c.args.self.now o.search.rules o.search.rules o.costs.items o.evidence c.args.literals.now o.low o.high _ _ _ c.self.invariant c.self.view_is refl d.valid d.even d.ordered c.requires.within in
    c.assume.ensures.within (all_vars o.search.rules) (omega (arith, c.self.invariant.weighs.short, r.known)) (within-more o.search.rules.cnf.vars (all_vars o.search.rules) c.args.literals.now (omega arith) r.within)

pub returns-then-not-meet-clause-none : goal.returns-then-not-meet-clause-none
returns-then-not-meet-clause-none c = λ _.
    let o = c.self.inside in
    let d = c.definitions.ensures in
    let r = ready c.args.self.now o.search.rules o.search.rules o.costs.items o.evidence c.args.literals.now o.low o.high _ _ _ c.self.invariant c.self.view_is refl d.valid d.even d.ordered c.requires.within in
    none-weighted _ _ _ _ _ _ _ r o.weights c.assume.new.assumed.items c.self.invariant.weighs (omega (arith, c.if-self.false)) (c.meet.ensures.refuted c.if-not-meet.true) c.assume.ensures.enough

pub returns-clause-found : goal.returns-clause-found
returns-clause-found c = λ _.
    let o = c.self.inside in
    let d = c.definitions.ensures in
    let s = c.assume.ensures in
    let r = ready c.args.self.now o.search.rules o.search.rules o.costs.items o.evidence c.args.literals.now o.low o.high _ _ _ c.self.invariant c.self.view_is refl d.valid d.even d.ordered c.requires.within in
    found-weighted _ _ _ _ _ _ _ r c.meet.new.search.rules c.meet.new.search.model c.take_bits.new.bits.items c.meet.ensures.rules
    (reached o.search.rules o.evidence c.args.literals.now c.assume.new.assumed.items c.meet.new.search.model (c.meet.ensures.model c.if-not-meet.false) s.known s.others)
    (grind (arith, common_steps, c.bits_cost-cost.ensures)) (grind (arith, common_steps, c.bits_cost-cost.ensures)) (grind (arith, common_steps, c.take_bits.ensures, c.self.invariant.long))
