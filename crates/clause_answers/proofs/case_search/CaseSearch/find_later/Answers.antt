use Rattle.std.proofs.Common.{◌≡◌, ◌≤◌, ◌+◌, ℕ, length, subst, arith}
use Rattle.state_rules.specs.Ranking.{cost}
use Rattle.conditioner.specs.Evidence.{bits_of}
use Rattle.clause_answers.specs.Questions.{Question}
use Rattle.clause_answers.proofs.Answered.{cost-total}
use Rattle.clause_answers.proofs.RisingStates.{level-first, level-later}
use Rattle.clause_answers.proofs.case_search.CaseSearch.find_later.Goals as goal

pub overflow_add-cost : goal.overflow_add-cost
overflow_add-cost c =
    let q : Question = c.self.inside.oracle.question in
    let same : c.state_cost-cost.result ≡ cost q.costs (bits_of c.in-Some.point.now) = grind (arith, c.state_cost-cost.ensures, c.costs.ensures.value) in
    omega (arith, same, cost-total q.costs (bits_of c.in-Some.point.now), c.costs-parts.ensures.total)

pub returns-in-None-clause-found : goal.returns-in-None-clause-found
returns-in-None-clause-found c =
    let within = subst (λ (k : Question). length k.costs ≤ k.cnf.vars) c.self.view_is c.costs-parts.ensures.parts in
    rw c.in-None.is (level-first c.args.self.now within c.args.least c.requires.least c.args.top c.find_level.result (bits_of c.args.state.now) (bits_of c.find_level.new.state) c.find_level.ensures.found)

pub returns-else-find_same-clause-found : goal.returns-else-find_same-clause-found
returns-else-find_same-clause-found c =
    let within = subst (λ (k : Question). length k.costs ≤ k.cnf.vars) c.self.view_is c.costs-parts.ensures.parts in
    let same : c.state_cost-cost.result ≡ cost c.args.self.now.costs (bits_of c.in-Some.point.now) = grind (arith, c.state_cost-cost.ensures, c.costs.ensures.value, c.self.view_is) in
    rw c.in-Some.is (level-later c.args.self.now within c.args.least c.requires.least c.args.top (bits_of c.in-Some.point.now) c.max.result c.find_level-in-Some.result
    (bits_of c.args.state.now) (bits_of c.find_same.new.state) (bits_of c.find_level-in-Some.new.state) (omega (arith, c.max.ensures, same)) c.if-find_same.ensures.found
    (rw (← c.find_same.ensures.same) c.find_level-in-Some.ensures.found))
