use Rattle.std.proofs.Common.{arith}
use Rattle.std.proofs.lemmas.Grind.{common_steps}
use Rattle.clause_answers.proofs.Spread.{grown-more, spread-added}
use Rattle.clause_answers.proofs.weights.charge.Goals as goal

pub returns-clause-grown : goal.returns-clause-grown
returns-clause-grown c = grown-more _ _ c.args.members.now c.args.limit c.definitions-definitions.ensures.even (grind (arith, common_steps))

pub returns-in-Some-clause-charged : goal.returns-in-Some-clause-charged
returns-in-Some-clause-charged c = λ e a. grind (
  arith,
  c.pad.ensures.same a c.args.search.now.rules.members c.args.search.now.rules.limits,
  c.give.ensures.given e,
  c.in-Some.ensures.members,
  c.in-Some.ensures.limit,
  spread-added a c.in-Some.place c.args.weight c.args.search.now.rules.members c.args.search.now.rules.limits c.pad.new.bounds.items c.definitions-definitions.ensures.even c.in-Some.ensures.within (c.give.ensures.within e),
)
