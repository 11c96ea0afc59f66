use Rattle.std.proofs.Common.{◌≡◌, Some, subst, arith}
use Rattle.clause_answers.specs.Questions.{Question, least_under}
use Rattle.clause_answers.specs.inner.Levels.{NextCost}
use Rattle.clause_answers.proofs.RisingStates.{cost-least, cost-found}
use Rattle.clause_answers.proofs.case_search.CaseSearch.next_cost.Goals as goal

pub returns-then-eq-clause-cost : goal.returns-then-eq-clause-cost
returns-then-eq-clause-cost c =
    let q : Question = c.self.inside.oracle.question in
    let known : Some c.args.from ≡ least_under q = c.self.invariant.known_least (Some c.args.from) (grind (arith, c.if-eq.ensures)) in
    subst (λ (k : Question). NextCost k c.args.from c.args.top (Some c.args.from)) c.self.view_is (cost-least q c.costs-parts.ensures.parts c.args.from c.args.top (omega arith) known)

pub returns-clause-cost : goal.returns-clause-cost
returns-clause-cost c = subst (λ (k : Question). NextCost k c.args.from c.args.top c.least_from.result) c.self.view_is
    (cost-found c.self.inside.oracle.question c.costs-parts.ensures.parts c.args.from c.args.top c.least_from.new.self.bits c.least_from.result c.least_from.ensures.least)
