use Rattle.std.proofs.Common.{arith}
use Rattle.clause_answers.proofs.Spread.{bound-lessened}
use Rattle.clause_answers.proofs.weights.lessen_bound.Goals as goal

pub returns-clause-lessened : goal.returns-clause-lessened
returns-clause-lessened c = λ e a l k h. grind (
  arith,
  c.charge.ensures.charged e a,
  c.charge.ensures.grown.kept a k,
  c.take.ensures.taken c.if-not-take.false,
  bound-lessened a c.args.search.now.rules c.args.place c.args.amount c.args.bounds.now.items l,
)

pub returns-then-len-limit-clause-lessened : goal.returns-then-len-limit-clause-lessened
returns-then-len-limit-clause-lessened c = λ e a l k h. grind (
  arith,
  c.take.ensures.taken c.if-not-take.false,
  bound-lessened a c.args.search.now.rules c.args.place c.args.amount c.args.bounds.now.items l,
)
