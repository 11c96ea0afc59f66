use Rattle.std.proofs.Common.{refl, ◌∙◌, arith}
use Rattle.std.proofs.lemmas.Grind.{common_steps}
use Rattle.std.proofs.lemmas.Bool.Decides.{nat_tests}
use Rattle.state_rules.specs.Assignments.{assignment}
use Rattle.clause_search.specs.Searching.{all_vars}
use Rattle.clause_answers.proofs.KnownLiterals.{within-more}
use Rattle.clause_answers.proofs.Settled.{first-many}
use Rattle.clause_answers.proofs.CarriedBits.{ready}
use Rattle.clause_answers.proofs.Answered.{reached, none-ranged, found-ranged, is-oracle}
use Rattle.clause_answers.proofs.oracle.Oracle.ask_range.Goals as goal

pub meet-requires : goal.meet-requires
meet-requires c =
    let o = c.self.inside in
    let d = c.definitions.ensures in
    let new = c.bound.new.search.rules in
    let r = ready c.args.self.now o.search.rules new o.costs.items o.evidence c.args.literals.now o.low o.high _ _ _ c.self.invariant c.self.view_is c.bound.ensures.cnf d.valid d.even d.ordered c.requires.within in
    c.assume_range.ensures.within (all_vars new) (omega (arith, first-many new.members o.costs.items c.bound.ensures.first, r.known)) (within-more new.cnf.vars (all_vars new) c.args.literals.now (omega arith) r.within)

pub invariant_of-self : goal.invariant_of-self
invariant_of-self c =
    let o = c.self.inside in
    let b = c.bound.ensures in
    is-oracle o.search.rules c.bound.new.search.rules _ o.costs.items o.evidence o.weights c.bound.new.weights o.bits.items o.bits.items _ _ c.self.invariant c.meet.ensures.rules b.cnf b.first (b.weighs o.evidence c.self.invariant.weighs) refl c.assume_range.ensures.capacity

pub invariant_of-self-2 : goal.invariant_of-self-2
invariant_of-self-2 c =
    let o = c.self.inside in
    let b = c.bound.ensures in
    is-oracle o.search.rules c.bound.new.search.rules _ o.costs.items o.evidence o.weights c.bound.new.weights o.bits.items c.take_bits.new.bits.items _ _ c.self.invariant c.meet.ensures.rules b.cnf b.first (b.weighs o.evidence c.self.invariant.weighs) (grind (arith, common_steps)) c.assume_range.ensures.capacity

pub returns-then-not-meet-clause-none : goal.returns-then-not-meet-clause-none
returns-then-not-meet-clause-none c = λ _.
    let o = c.self.inside in
    let d = c.definitions.ensures in
    let b = c.bound.ensures in
    let r = ready c.args.self.now o.search.rules c.bound.new.search.rules o.costs.items o.evidence c.args.literals.now o.low o.high _ _ _ c.self.invariant c.self.view_is b.cnf d.valid d.even d.ordered c.requires.within in
    none-ranged _ _ _ _ _ _ _ r _ c.assume_range.new.assumed.items b.first b.most (b.less ∙ c.saturating_sub.ensures) (λ e. grind (arith, nat_tests)) (c.meet.ensures.refuted c.if-not-meet.true) c.assume_range.ensures.enough

pub returns-clause-found : goal.returns-clause-found
returns-clause-found c = λ _.
    let o = c.self.inside in
    let d = c.definitions.ensures in
    let b = c.bound.ensures in
    let s = c.assume_range.ensures in
    let m = c.meet.ensures.model c.if-not-meet.false in
    let r = ready c.args.self.now o.search.rules c.bound.new.search.rules o.costs.items o.evidence c.args.literals.now o.low o.high _ _ _ c.self.invariant c.self.view_is b.cnf d.valid d.even d.ordered c.requires.within in
    found-ranged _ _ _ _ _ _ _ r c.meet.new.search.rules c.meet.new.search.model c.take_bits.new.bits.items _ c.meet.ensures.rules b.first b.most (b.less ∙ c.saturating_sub.ensures) (λ e. grind (arith, nat_tests))
    (reached c.bound.new.search.rules o.evidence c.args.literals.now c.assume_range.new.assumed.items c.meet.new.search.model m s.known s.others)
    (s.most (assignment c.meet.new.search.model) m.assumed) (s.above (assignment c.meet.new.search.model) m.assumed) (grind (arith, common_steps, c.take_bits.ensures, c.self.invariant.long, r.known, c.self.invariant.known))
